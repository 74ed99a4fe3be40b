-- `Text::number` ends: the measure is the number. Assumes nothing.
use Rattle.listing.proofs.line.Text.+number.Given as goal

abbrev pub decreases-number : goal.decreases-number
decreases-number l = l.x
