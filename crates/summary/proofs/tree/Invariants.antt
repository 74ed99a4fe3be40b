-- `summary::tree` meets its contract. The loop's invariant: all nodes past v have grown.
-- Assumes nothing.
use Prim.Native.Nat.{◌-◌}
use Rattle.summary.specs.Laid.{Grows}
use Rattle.summary.proofs.tree.Given as goal

abbrev pub invariant-loop-v : goal.invariant-loop-v
invariant-loop-v l = Grows (l.v - 1) l.initial.slots l.slots
