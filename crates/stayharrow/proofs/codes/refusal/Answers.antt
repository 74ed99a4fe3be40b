-- `stayharrow::codes::refusal` meets its contract: the number is too small for bit 63.
-- Assumes nothing.
use native.Mathlib.Omega.{arith}
use Rattle.stayharrow.proofs.Numbers.{number_few}
use Rattle.stayharrow.proofs.codes.refusal.Goals as goal

pub overflow_add-result : goal.overflow_add-result
overflow_add-result c = omega (arith, c.from.ensures, number_few c.args.x)
