-- `listing::lines::long` meets its contract: the word is the line.
-- Assumes nothing.
use Rattle.rules.specs.Listing.{decimal_of, decimal, long_line}
use Rattle.listing.proofs.Writing.{anew_more}
use Rattle.listing.proofs.lines.long.Goals as goal

pub returns-clause-anew : goal.returns-clause-anew
unfolding decimal_of decimal long_line
returns-clause-anew c = anew_more c.clear.ensures.anew c.word.ensures.writes
