-- `quick::Stretch::beyond` meets its contract: the last block's part, or the block that the tree leads to.
-- Assumes nothing.
use Rattle.quick.proofs.Middle.{named, last-wins, inner-wins}
use Rattle.quick.proofs.Stretch.beyond.Goals as goal

pub returns-then-end-mid : goal.returns-then-end-mid
returns-then-end-mid c =
    let s = c.args.self.now in
    record {
      allowed = c.entry.ensures.allowed;
      right = λ n asks first more. named s n asks c.entry.ensures (last-wins s n asks c.args.best (c.requires.1.some more) more first c.finish-end.result c.finish-end.ensures c.if-end-mid.true);
    }

pub returns : goal.returns
returns c =
    let s = c.args.self.now in
    record {
      allowed = c.entry-2.ensures.allowed;
      right = λ n asks first more. named s n asks c.entry-2.ensures (inner-wins s n asks c.args.best (c.requires.1.some more) more first c.descend-k.result c.descend-k.ensures c.finish-end.result c.whole.result c.before-before.result c.finish-end.ensures c.if-end-mid.false c.before-before.ensures c.whole.ensures);
    }
