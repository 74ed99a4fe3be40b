-- `Text::number` meets its contract: a number has one digit, or its last digit behind those of its tenth.
-- Assumes nothing.
use mathlib.Core.Path.{◌≡◌}
use Prim.Native.Nat.{◌%◌}
use native.Mathlib.Omega.{arith}
use Rattle.rules.proofs.Listing.{decimal-one, decimal-more}
use Rattle.listing.proofs.Digits.{one-digit, one_more_lem}
use Rattle.listing.proofs.Writing.{writes_both}
use Rattle.listing.proofs.line.Text.+number.Goals as goal
use Rattle.listing.proofs.line.Text.+number.Goals.{then-x-ge10, else-x-ge10}

pub number-requires : goal.number-requires
number-requires t c = (omega arith, omega (arith, one_more_lem c.args.x (omega arith)))

pub byte-requires : goal.byte-requires
byte-requires t c =
    elim c.if-x-ge10.branch [
      | then-x-ge10 w ↦ rw w.self-is (omega (arith, w.number.ensures.writes.size, one_more_lem c.args.x w.if-x-ge10.true))
      | else-x-ge10 w ↦ rw w.self-is (omega (arith, one-digit c.args.x w.if-x-ge10.false))
    ]

pub returns-clause-writes : goal.returns-clause-writes
returns-clause-writes t c =
    elim c.if-x-ge10.branch [
      | then-x-ge10 w ↦ rw (decimal-more c.args.x w.if-x-ge10.true) (writes_both w.number.ensures.writes (rw w.self-is at c.byte.ensures.writes))
      | else-x-ge10 w ↦
          let one : c.args.x % 10 ≡ c.args.x = omega arith in
          rw (decimal-one c.args.x w.if-x-ge10.false) (rw (one, w.self-is) at c.byte.ensures.writes)
    ]
