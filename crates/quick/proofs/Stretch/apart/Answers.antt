-- `quick::Stretch::apart` meets its contract: a block between where it is lower than all of the first, else the first one's part.
-- Assumes nothing.
use Rattle.quick.proofs.Joined.{leaf_above, one-between}
use Rattle.quick.proofs.Stretch.apart.Goals as goal

pub returns-then-best-leaf : goal.returns-then-best-leaf
returns-then-best-leaf c =
    let s = c.args.self.now in
    let best = c.climb-best in
    record {
      allowed = c.beyond.ensures.allowed;
      right = λ n asks.
          let above = leaf_above s n asks c.requires best.result.low c.leaf.result c.leaf.ensures.0 c.if-best-leaf.true in
          c.beyond.ensures.right n asks above (one-between s n asks c.requires best.result above best.ensures);
    }
