-- `blocks::byte::nth` meets its contract: a half of the byte, and the place in it.
-- Assumes nothing.
use native.Mathlib.Omega.{arith}
use Rattle.rules.specs.Bytes.{low_bits}
use Rattle.rules.proofs.ClosingPlace.{closing-within}
use Rattle.rules.proofs.Bytes.{low_bits-length}
use Rattle.blocks.proofs.byte.nth.Goals as goal

pub overflow_add-result : goal.overflow_add-result
overflow_add-result c =
    let n = c.args.n in
    omega (arith, c.half-h.ensures.there, closing-within (low_bits 8 n.bits) n.k c.requires.0, low_bits-length 8 n.bits)
