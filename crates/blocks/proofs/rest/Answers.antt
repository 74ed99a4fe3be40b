-- `blocks::rest` meets its contract: the closing is in the byte ahead, or is asked of those behind it.
-- Assumes nothing.
use native.Mathlib.Omega.{arith}
use Rattle.blocks.proofs.Selects.{left_all, left_none, left_on, left_here, next_byte}
use Rattle.blocks.proofs.rest.Goals as goal

pub loop-m-init : goal.loop-m-init
loop-m-init c = left_all _ _

pub returns-then-left-c : goal.returns-then-left-c
returns-then-left-c c =
    rw c.nth.ensures
    (left_here c.loop-m.invariant (next_byte _ _ _ c.loop-m-test.true c.from.ensures) (omega arith))

pub loop-m-preserved : goal.loop-m-preserved
loop-m-preserved c =
    rw c.count_eight-c.ensures
    (left_on c.loop-m.invariant (next_byte _ _ _ c.loop-m-test.true c.from.ensures) (omega arith))

pub returns : goal.returns
returns c = left_none c.loop-m.invariant c.loop-m-test.false
