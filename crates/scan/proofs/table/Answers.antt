-- `scan::table` meets its contract: the static is the definition's list, number by number.
-- Assumes nothing.
use mathlib.Core.Path.{refl}
use Rattle.scan.specs.Rows.{rows}
use Rattle.scan.proofs.table.Goals as goal

pub returns : goal.returns
unfolding rows
returns c = refl
