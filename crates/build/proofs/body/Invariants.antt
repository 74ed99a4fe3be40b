-- `build::body` meets its contract: the invariant is `Turned`, an entry a turn. Assumes nothing.
use mathlib.Core.Path.{◌≡◌}
use Rattle.build.proofs.Turning.{Turned}
use Rattle.build.proofs.body.Given as goal

abbrev pub invariant-loop-i : goal.invariant-loop-i
invariant-loop-i l =
    (l.pen.body.ghost_name ≡ l.initial.pen.body.ghost_name)
    × (l.spine.places.ghost_name ≡ l.initial.spine.places.ghost_name)
    × Turned l.column l.pen l.spine l.i
