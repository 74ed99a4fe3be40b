-- `build::Pen::closes` meets its contract: the closing is held, or fills the byte, which is stored. Assumes nothing.
use mathlib.Core.Path.{refl}
use native.Mathlib.Omega.{arith}
use Rattle.build.proofs.Writing.{adds_closed, adds_byte, holds_more, stores}
use Rattle.build.proofs.pen.Pen.closes.Goals as goal

pub overflow_mul-self : goal.overflow_mul-self
overflow_mul-self c = omega (arith, adds_byte c.requires (adds_closed c.args.self.now) (omega arith))

pub overflow_cast-self : goal.overflow_cast-self
overflow_cast-self c = omega (arith, adds_byte c.requires (adds_closed c.args.self.now) (omega arith))

pub returns-then-self-eq8-clause-writes : goal.returns-then-self-eq8-clause-writes
returns-then-self-eq8-clause-writes c = stores _ _ _ _ refl (omega arith) (omega arith) (omega arith) (adds_closed c.args.self.now)

pub returns-else-self-eq8-clause-writes : goal.returns-else-self-eq8-clause-writes
returns-else-self-eq8-clause-writes c = holds_more _ _ _ _ _ refl (omega arith) (omega arith) (adds_closed c.args.self.now)
