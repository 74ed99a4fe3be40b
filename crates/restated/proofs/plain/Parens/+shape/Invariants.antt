-- `plain::Parens::shape` ends: the entries before the leftmost smallest one, and those after it, are fewer than all. Assumes nothing.
use Rattle.std.proofs.Common.{length}
use Rattle.restated.proofs.plain.Parens.+shape.Given as goal

abbrev pub decreases-shape : goal.decreases-shape
decreases-shape l = length l.column.now
