-- `summary::tree` meets its contract. The loop's invariant: all nodes past v have grown.
-- Assumes nothing.
use Prim.Native.Nat.{◌-◌}
use native.Mathlib.Omega.{arith}
use Rattle.summary.proofs.Growing.{grows_on}
use Rattle.summary.proofs.tree.Goals as goal

pub loop-v-preserved : goal.loop-v-preserved
loop-v-preserved c =
    grows_on (c.loop-v.v - 1) (omega arith) (omega arith) c.loop-v.invariant (omega (arith, c.min.ensures))
