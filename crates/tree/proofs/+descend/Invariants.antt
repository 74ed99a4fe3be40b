-- `tree::descend` ends: the measure is the level. Assumes nothing.
use Rattle.tree.proofs.+descend.Given as goal

abbrev pub decreases-descend : goal.decreases-descend
decreases-descend l = l.level
