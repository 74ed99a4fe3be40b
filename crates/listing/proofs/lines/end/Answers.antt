-- `listing::lines::end` meets its contract.
-- Assumes nothing.
use native.Mathlib.Omega.{arith}
use Rattle.rules.specs.Listing.{end_line}
use Rattle.listing.proofs.Digits.{twenty}
use Rattle.listing.proofs.Writing.{anew_more}
use Rattle.listing.proofs.lines.end.Goals as goal

pub number-requires : goal.number-requires
number-requires c = omega (arith, twenty c.args.count (omega arith), c.word.ensures.writes.size, c.clear.ensures.anew.size)

pub word-requires-2 : goal.word-requires-2
word-requires-2 c = omega (arith, twenty c.args.count (omega arith), c.number.ensures.writes.size, c.word.ensures.writes.size, c.clear.ensures.anew.size)

pub returns-clause-anew : goal.returns-clause-anew
unfolding end_line
returns-clause-anew c = anew_more (anew_more (anew_more c.clear.ensures.anew c.word.ensures.writes) c.number.ensures.writes) c.word-2.ensures.writes
