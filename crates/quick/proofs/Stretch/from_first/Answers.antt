-- `quick::Stretch::from_first` meets its contract: the first block's part and the last one's, or a block between.
-- Assumes nothing.
use native.Mathlib.Omega.{arith}
use Rattle.quick.proofs.Middle.{named}
use Rattle.quick.proofs.Joined.{first-wins, part-above, one-between}
use Rattle.quick.proofs.Stretch.from_first.Goals as goal

pub returns-then-part-best : goal.returns-then-part-best
returns-then-part-best c =
    let s = c.args.self.now in
    record {
      allowed = c.entry.ensures.allowed;
      right = λ n asks at high. named s n asks c.entry.ensures (first-wins s n asks c.args.first at high c.leaf.result c.leaf.ensures.0 c.requires.0 c.args.best c.requires.2 c.behind-part.result c.finish.result c.behind-part.ensures c.if-part-best.true c.finish.ensures);
    }

pub returns : goal.returns
returns c =
    let s = c.args.self.now in
    record {
      allowed = c.beyond.ensures.allowed;
      right = λ n asks at high.
          let above = part-above s n asks c.args.first at high c.leaf.result c.leaf.ensures.0 c.requires.0 c.args.best.low c.behind-part.result c.behind-part.ensures (omega (arith, c.if-part-best.false)) in
          c.beyond.ensures.right n asks above (one-between s n asks c.requires.0 c.args.best above c.requires.2);
    }
