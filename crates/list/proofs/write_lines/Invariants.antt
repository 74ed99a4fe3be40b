-- `list::write_lines`: the writer has all lines but those left, and each line that is written is one fewer of these.
use Rattle.std.specs.Prelude.{length}
use mathlib.Core.List.{flatten}
use Rattle.rules.specs.Listing.{listing}
use Rattle.listing.specs.Left.{lines_left}
use Rattle.list.proofs.Written.{Gone}
use Rattle.list.proofs.write_lines.Given as goal

abbrev pub invariant-loop-text : goal.invariant-loop-text
invariant-loop-text g l = Gone (g.W.Write.contents l.fn.out) (g.W.Write.contents l.out) (flatten (lines_left l.drawer l.rest)) (listing l.drawer)

abbrev pub decreases-loop-text : goal.decreases-loop-text
decreases-loop-text g l = length (lines_left l.drawer l.rest)
