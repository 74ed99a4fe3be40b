-- `summary::last` meets its contract: the short block's numbers, its last byte read with the unused bits opened.
-- Assumes nothing.
use Prim.Native.Nat.{◌/◌}
use native.Mathlib.Omega.{arith}
use Rattle.summary.proofs.Sizes.{few, blocks, exact}
use Rattle.summary.proofs.Reading.{half_closed, ready_last, read_last}
use Rattle.summary.proofs.last.Goals as goal

pub fresh-requires : goal.fresh-requires
fresh-requires c =
    (omega (arith, blocks c.args.checked), omega (arith, half_closed c.args.checked (c.args.checked.entries / 128) (omega arith)))

pub byte-low-requires : goal.byte-low-requires
byte-low-requires c =
    (ready_last c.args.checked c.args.passed c.fresh.ensures c.bytes-st.ensures, omega (arith, blocks c.args.checked, exact c.args.checked))

pub overflow_sub-result : goal.overflow_sub-result
overflow_sub-result c =
    omega (arith, read_last c.args.checked _ c.requires.0 c.requires.1 c.fresh.ensures c.bytes-st.ensures c.opened-opened.ensures c.byte-low.ensures)

pub overflow_cast-result : goal.overflow_cast-result
overflow_cast-result c =
    omega (arith, read_last c.args.checked _ c.requires.0 c.requires.1 c.fresh.ensures c.bytes-st.ensures c.opened-opened.ensures c.byte-low.ensures)

pub invariant_of-result : goal.invariant_of-result
invariant_of-result c =
    omega (arith, few c.args.checked, read_last c.args.checked _ c.requires.0 c.requires.1 c.fresh.ensures c.bytes-st.ensures c.opened-opened.ensures c.byte-low.ensures)

pub returns : goal.returns
returns c =
    omega (arith, read_last c.args.checked _ c.requires.0 c.requires.1 c.fresh.ensures c.bytes-st.ensures c.opened-opened.ensures c.byte-low.ensures)
