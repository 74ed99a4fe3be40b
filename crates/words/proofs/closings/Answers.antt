-- `words::closings` meets its contract: of 64 bits those that are not set.
-- Assumes nothing.
use mathlib.Core.Path.{ap}
use native.Mathlib.Omega.{arith}
use Rattle.rules.specs.Excess.{closings}
use Rattle.words.proofs.Ones.{zeros_close}
use Rattle.words.proofs.closings.Goals as goal

pub returns : goal.returns
returns c =
    omega (arith, c.count_zeros.ensures.value, zeros_close 64 c.word.result c.word.type_inv, ap closings c.word.ensures)
