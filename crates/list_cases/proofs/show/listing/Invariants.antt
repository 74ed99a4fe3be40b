-- `show::listing` ends: each line that is shown is one fewer of those left. Assumes nothing.
use Rattle.std.proofs.Common.{length}
use Rattle.listing.specs.Left.{lines_left}
use Rattle.list_cases.proofs.show.listing.Given as goal

abbrev pub decreases-loop-text : goal.decreases-loop-text
decreases-loop-text g l = length (lines_left l.drawer l.rest)
