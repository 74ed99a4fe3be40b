-- `blocks::search` meets its contract. The loop's invariant: the block is between the two ends.
-- Assumes nothing.
use Prim.Native.Nat.{◌-◌}
use Rattle.blocks.proofs.Searching.{Searching}
use Rattle.blocks.proofs.search.Given as goal

abbrev pub invariant-loop-lo : goal.invariant-loop-lo
invariant-loop-lo l = Searching l.t.numbers.now l.i l.from l.to l.lo l.hi

abbrev pub decreases-loop-lo : goal.decreases-loop-lo
decreases-loop-lo l = l.hi - l.lo
