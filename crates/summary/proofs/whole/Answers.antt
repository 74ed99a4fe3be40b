-- `summary::whole` meets its contract: the scan's end gives what the block gives.
-- Assumes nothing.
use native.Mathlib.Omega.{arith}
use Rattle.summary.proofs.Sizes.{blocks}
use Rattle.summary.proofs.Reading.{half_closed, read_whole}
use Rattle.summary.proofs.whole.Goals as goal

pub fresh-requires : goal.fresh-requires
fresh-requires c =
    (omega (arith, blocks c.args.checked), omega (arith, half_closed c.args.checked c.args.k (omega arith)))

pub overflow_sub-result : goal.overflow_sub-result
overflow_sub-result c =
    omega (arith, read_whole c.args.checked c.requires.0 c.requires.1 c.fresh.ensures c.bytes-st.ensures)

pub overflow_sub-result-2 : goal.overflow_sub-result-2
overflow_sub-result-2 c =
    omega (arith, read_whole c.args.checked c.requires.0 c.requires.1 c.fresh.ensures c.bytes-st.ensures)

pub overflow_cast-result : goal.overflow_cast-result
overflow_cast-result c =
    omega (arith, read_whole c.args.checked c.requires.0 c.requires.1 c.fresh.ensures c.bytes-st.ensures)

pub overflow_sub-result-3 : goal.overflow_sub-result-3
overflow_sub-result-3 c =
    omega (arith, read_whole c.args.checked c.requires.0 c.requires.1 c.fresh.ensures c.bytes-st.ensures)

pub overflow_cast-result-2 : goal.overflow_cast-result-2
overflow_cast-result-2 c =
    omega (arith, read_whole c.args.checked c.requires.0 c.requires.1 c.fresh.ensures c.bytes-st.ensures)

pub invariant_of-result : goal.invariant_of-result
invariant_of-result c =
    omega (arith, read_whole c.args.checked c.requires.0 c.requires.1 c.fresh.ensures c.bytes-st.ensures)

pub returns : goal.returns
returns c =
    omega (arith, read_whole c.args.checked c.requires.0 c.requires.1 c.fresh.ensures c.bytes-st.ensures)
