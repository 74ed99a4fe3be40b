-- `scan::shifted` meets its contract: the table's rule at place k, and that no step on the way wraps.
-- Assumes nothing.
use Rattle.scan.specs.Rows.{rows}
use Rattle.scan.proofs.Cells.{cell_at}
use Rattle.scan.proofs.shifted.Goals as goal

pub overflow_cast-result : goal.overflow_cast-result
unfolding rows
overflow_cast-result c = (cell_at c.args.k c.requires).read

pub overflow_add-result : goal.overflow_add-result
unfolding rows
overflow_add-result c = (cell_at c.args.k c.requires).plus

pub overflow_cast-result-2 : goal.overflow_cast-result-2
unfolding rows
overflow_cast-result-2 c =
    let at = cell_at c.args.k c.requires in (at.positive, at.fits)

pub returns : goal.returns
unfolding rows
returns c = (cell_at c.args.k c.requires).value
