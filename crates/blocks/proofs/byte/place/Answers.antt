-- `blocks::byte::place` meets its contract, by the test over all of four bits and their closings.
-- Assumes nothing.
use mathlib.Core.Path.{◌≡◌, ◌∙◌}
use borrow.Author.Tests.{lt-ltb, le-ltb}
use Rattle.blocks.proofs.Nibbles.{places_of, place_right}
use Rattle.blocks.proofs.byte.place.Goals as goal
use Rattle.blocks.proofs.byte.place.Goals.{then-k-lt2, else-k-lt2}

pub returns : goal.returns
returns c =
    let k = c.args.k in
    let e : c.if-k-lt2.places ≡ places_of k =
    elim c.if-k-lt2.branch [ then-k-lt2 w ↦ w.places-is ∙ rw (lt-ltb k 2 w.if-k-lt2.true) | else-k-lt2 w ↦ w.places-is ∙ rw (le-ltb k 2 w.if-k-lt2.false) ] in
    rw e (place_right c.args.bits k c.requires)
