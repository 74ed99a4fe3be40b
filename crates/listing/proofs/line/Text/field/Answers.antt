-- `Text::field` meets its contract.
-- Assumes nothing.
use native.Mathlib.Omega.{arith}
use Rattle.listing.proofs.Digits.{twenty}
use Rattle.listing.proofs.Writing.{writes_both}
use Rattle.listing.proofs.line.Text.field.Goals as goal

pub number-requires : goal.number-requires
number-requires c = omega (arith, twenty c.args.x (omega arith))

pub byte-requires : goal.byte-requires
byte-requires c = omega (arith, twenty c.args.x (omega arith), c.number.ensures.writes.size)

pub returns-clause-writes : goal.returns-clause-writes
returns-clause-writes c = writes_both c.number.ensures.writes c.byte.ensures.writes

pub returns-clause-short : goal.returns-clause-short
returns-clause-short c = omega (arith, twenty c.args.x (omega arith), c.number.ensures.writes.size, c.byte.ensures.writes.size)
