-- `build::Pen::opens` meets its contract. The invariant: part of the run is written, and the rest has room; what is left of the run falls.
-- Assumes nothing.
use mathlib.Core.Path.{◌≡◌}
use Rattle.build.proofs.Writing.{Opening}
use Rattle.build.proofs.pen.Pen.opens.Given as goal

abbrev pub invariant-loop-self : goal.invariant-loop-self
invariant-loop-self l = (l.self.body.ghost_name ≡ l.initial.self.body.ghost_name) × Opening l.count l.initial.self l.more l.self

abbrev pub decreases-loop-self : goal.decreases-loop-self
decreases-loop-self l = l.more
