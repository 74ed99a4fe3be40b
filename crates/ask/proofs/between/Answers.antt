-- `ask::between` meets its contract: the scan ends with the place of the answer's closing and the excess there, which tell its number.
-- Assumes nothing.
use native.Mathlib.Omega.{arith}
use Rattle.ask.proofs.Answered.{long, asked, names}
use Rattle.ask.proofs.between.Goals as goal

pub slice_bounds-lowest-count : goal.slice_bounds-lowest-count
slice_bounds-lowest-count c = long c.args.checked c.requires

pub slice_bounds-lowest-start : goal.slice_bounds-lowest-start
slice_bounds-lowest-start c = long c.args.checked c.requires

pub lowest-end-requires : goal.lowest-end-requires
lowest-end-requires c = omega (arith, asked c.args.checked c.requires)

pub overflow_add-end : goal.overflow_add-end
overflow_add-end c = omega (arith, names c.args.checked c.requires c.lowest-end.ensures)

pub closings-requires : goal.closings-requires
closings-requires c = omega (arith, names c.args.checked c.requires c.lowest-end.ensures)

pub overflow_sub-result : goal.overflow_sub-result
overflow_sub-result c = omega (arith, c.closings.ensures, names c.args.checked c.requires c.lowest-end.ensures)

pub returns : goal.returns
returns c = omega (arith, c.closings.ensures, names c.args.checked c.requires c.lowest-end.ensures)
