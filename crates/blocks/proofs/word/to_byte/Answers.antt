-- `blocks::word::to_byte` meets its contract: the highest bits that are left tell how many bytes are passed.
-- Assumes nothing.
use native.Mathlib.Omega.{arith}
use Rattle.blocks.proofs.Bits.{leads}
use Rattle.blocks.proofs.Marks.{narrows, start}
use Rattle.blocks.proofs.word.to_byte.Goals as goal

pub overflow_mul-passed : goal.overflow_mul-passed
overflow_mul-passed c = omega (arith, narrows c.requires)

pub overflow_add-passed : goal.overflow_add-passed
overflow_add-passed c = omega (arith, narrows c.requires)

pub overflow_sub-passed : goal.overflow_sub-passed
overflow_sub-passed c = (narrows c.requires).room

pub overflow_shr-before : goal.overflow_shr-before
overflow_shr-before c = omega (arith, (narrows c.requires).within)

pub overflow_shr-result : goal.overflow_shr-result
overflow_shr-result c = omega (arith, (narrows c.requires).within)

pub overflow_sub-result : goal.overflow_sub-result
overflow_sub-result c = let w = narrows c.requires in rw w.counted w.passed

pub returns : goal.returns
returns c =
    let w = narrows c.requires in
    rw w.counted (leads (start c.args.sums c.args.n.k) 8 64 c.args.n w.within w.passed w.ahead)
