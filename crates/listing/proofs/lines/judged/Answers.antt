-- `listing::lines::judged` meets its contract.
-- Assumes nothing.
use mathlib.Core.Path.{sym}
use Rattle.rules.specs.Listing.{record_line}
use Rattle.listing.proofs.Writing.{anew_same}
use Rattle.listing.proofs.lines.judged.Goals as goal

pub returns-in-Ok-clause-anew : goal.returns-in-Ok-clause-anew
unfolding record_line
returns-in-Ok-clause-anew c = anew_same c.accepted.ensures.anew (rw (c.in-Ok.ensures.keeps, ← c.in-Ok.ensures.says))

pub returns-in-Err-clause-anew : goal.returns-in-Err-clause-anew
unfolding record_line
returns-in-Err-clause-anew c = anew_same c.refused.ensures.anew (rw (← c.in-Err.ensures.says))
