-- `stayharrow::codes::refusal_of_shared` meets its contract: the number is too small for bit 40.
-- Assumes nothing.
use native.Mathlib.Omega.{arith}
use Rattle.stayharrow.proofs.Numbers.{number_few}
use Rattle.stayharrow.proofs.codes.refusal_of_shared.Goals as goal

pub overflow_add-result : goal.overflow_add-result
overflow_add-result c = omega (arith, c.refusal.ensures, number_few c.args.x)
