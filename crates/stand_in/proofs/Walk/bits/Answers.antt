-- `stand_in::Walk::bits` meets its contract. The loop's invariant: what is left of the byte leads where all of it led.
-- Assumes nothing.
use native.Mathlib.Omega.{arith}
use Rattle.stand_in.proofs.Walking.{next, bit_gone, all_gone}
use Rattle.stand_in.proofs.Walk.bits.Goals as goal

pub overflow_add-self : goal.overflow_add-self
overflow_add-self c = omega (arith, next _ _ _ c.loop-test.true c.loop.invariant.1.ready)

pub overflow_sub-self : goal.overflow_sub-self
overflow_sub-self c = (next _ _ _ c.loop-test.true c.loop.invariant.1.ready).above

pub bounds-self-self : goal.bounds-self-self
bounds-self-self c = (next _ _ _ c.loop-test.true c.loop.invariant.1.ready).within

pub loop-preserved : goal.loop-preserved
loop-preserved c = (c.loop.invariant.0, bit_gone _ _ _ c.loop-test.true c.loop.invariant.1)

pub returns-clause-walks : goal.returns-clause-walks
returns-clause-walks c = all_gone _ _ _ c.loop-test.false c.loop.invariant.1
