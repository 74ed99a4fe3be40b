-- `stand_in::fill` meets its contract. The loop's invariant: the first whole bytes are done.
-- Assumes nothing.
use mathlib.Core.Path.{◌≡◌}
use Rattle.stand_in.proofs.Filling.{Filling}
use Rattle.stand_in.proofs.fill.Given as goal

abbrev pub invariant-loop-b : goal.invariant-loop-b
invariant-loop-b l =
    (l.walk.column.ghost_name ≡ l.initial.walk.column.ghost_name)
    × Filling l.checked.bytes.now l.n l.initial.walk.column l.walk l.b-index
