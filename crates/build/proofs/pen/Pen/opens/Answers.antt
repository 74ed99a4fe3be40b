-- `build::Pen::opens` meets its contract. The invariant: part of the run is written, and the rest has room; what is left of the run falls.
-- Assumes nothing.
use mathlib.Core.Path.{refl}
use Prim.Native.Nat.{◌-◌}
use native.Mathlib.Omega.{arith}
use lib.ListN.{length-replicate}
use Rattle.build.proofs.Writing.{holds_more, stores, adds_opened, shift_fits, more-opened, all_opened}
use Rattle.build.proofs.pen.Pen.opens.Goals as goal

pub overflow_add-self : goal.overflow_add-self
overflow_add-self c = omega (arith, shift_fits c.loop-self.invariant.1.ready (8 - c.loop-self.self.held) (omega arith))

pub overflow_sub-self-in-loop-self-3 : goal.overflow_sub-self-in-loop-self-3
overflow_sub-self-in-loop-self-3 c = omega (arith, shift_fits c.loop-self.invariant.1.ready (8 - c.loop-self.self.held) (omega arith))

pub overflow_cast-self-in-loop-self : goal.overflow_cast-self-in-loop-self
overflow_cast-self-in-loop-self c = omega (arith, shift_fits c.loop-self.invariant.1.ready (8 - c.loop-self.self.held) (omega arith))

pub loop-self-preserved : goal.loop-self-preserved
loop-self-preserved c = (
  c.loop-self.invariant.0,
  more-opened (8 - c.loop-self.self.held) c.loop-self.invariant.1 (omega arith)
      (stores _ _ _ _ refl (rw length-replicate (omega arith)) (omega arith) (omega arith) (adds_opened _ _ (omega arith))),
)

pub overflow_add-self-2 : goal.overflow_add-self-2
overflow_add-self-2 c = omega (arith, shift_fits c.loop-self.invariant.1.ready c.loop-self.more (omega arith))

pub overflow_sub-self-2 : goal.overflow_sub-self-2
overflow_sub-self-2 c = omega (arith, shift_fits c.loop-self.invariant.1.ready c.loop-self.more (omega arith))

pub returns-clause-writes : goal.returns-clause-writes
returns-clause-writes c =
    all_opened (more-opened c.loop-self.more c.loop-self.invariant.1 (omega arith)
    (holds_more _ _ _ _ _ refl (rw length-replicate (omega arith)) (omega arith) (adds_opened _ _ (omega arith))))
