-- `ask::byte::nth` meets its contract: a closing of eight bits stands below 8. Assumes nothing.
use native.Mathlib.Omega.{arith}
use Rattle.rules.specs.Bytes.{low_bits}
use Rattle.rules.proofs.Bytes.{low_bits-length}
use Rattle.rules.proofs.ClosingPlace.{closing-within}
use Rattle.ask.proofs.byte.nth.Goals as goal

pub overflow_cast-result : goal.overflow_cast-result
overflow_cast-result c =
    let b = c.from-bits.result in
    omega (arith, closing-within (low_bits 8 b) c.args.k (rw c.from-bits.ensures c.requires), low_bits-length 8 b)
