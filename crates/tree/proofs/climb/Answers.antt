-- `tree::climb` meets its contract. The loop's invariant is `Climbing`.
-- Assumes nothing.
use mathlib.Core.Path.{◌≡◌}
use Prim.Native.Nat.{◌/◌}
use native.Mathlib.Omega.{arith}
use Rattle.tree.proofs.Climbing.{climb_starts, climb_on, climb_met, climb_ends}
use Rattle.tree.proofs.climb.Goals as goal
use Rattle.tree.proofs.climb.Goals.{else-loop-h-test, then-loop-h-test+then-l-r}

pub loop-h-init : goal.loop-h-init
loop-h-init c = climb_starts _ _ _ c.requires.0

pub loop-h-preserved : goal.loop-h-preserved
loop-h-preserved c =
    climb_on (omega arith) (omega arith) c.left_key.ensures.1 c.right_key.ensures.1 c.if-l-r.false (cc) c.loop-h.invariant

pub returns : goal.returns
returns c =
    let met : c.loop-h.l / 2 ≡ c.loop-h.r / 2 =
    elim c.loop-h-test.branch [ else-loop-h-test w ↦ climb_met c.requires.0 c.requires.1 c.loop-h.auto.h-end w.loop-h-test.false c.loop-h.invariant | then-loop-h-test+then-l-r w ↦ w.if-l-r.true ] in
    rw c.passed.ensures (climb_ends c.loop-h.auto.h-end met c.loop-h.invariant)
