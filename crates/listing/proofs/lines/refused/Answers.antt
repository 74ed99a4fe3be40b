-- `listing::lines::refused` meets its contract.
-- Assumes nothing.
use native.Mathlib.Omega.{arith}
use mathlib.Core.List.{append_assoc}
use Rattle.rules.specs.Listing.{refused_line}
use Rattle.listing.proofs.Digits.{twenty}
use Rattle.listing.proofs.Writing.{anew_more, anew_same}
use Rattle.listing.proofs.lines.refused.Goals as goal

pub number-requires : goal.number-requires
number-requires c =
    omega (arith, twenty c.from.result (omega arith), c.clear.ensures.anew.size, c.field.ensures.short, c.word.ensures.writes.size)

pub word-requires-2 : goal.word-requires-2
word-requires-2 c =
    omega (arith, twenty c.from.result (omega arith), c.clear.ensures.anew.size, c.field.ensures.short, c.word.ensures.writes.size, c.number.ensures.writes.size)

pub returns-clause-anew : goal.returns-clause-anew
unfolding refused_line
returns-clause-anew c =
    anew_same (anew_more (anew_more (anew_more (anew_more c.clear.ensures.anew c.field.ensures.writes) c.word.ensures.writes) c.number.ensures.writes) c.word-2.ensures.writes)
    (rw c.from.ensures (simp append_assoc))
