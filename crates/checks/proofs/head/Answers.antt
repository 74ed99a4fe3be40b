-- `checks::head` meets its contract: two bytes, the low one first.
-- Assumes nothing.
use native.Mathlib.Omega.{arith}
use Rattle.rules.specs.Bytes.{entries}
use Rattle.checks.proofs.head.Goals as goal

pub returns : goal.returns
unfolding entries
returns c = omega (arith, c.from.ensures, c.from_le_bytes.ensures)
