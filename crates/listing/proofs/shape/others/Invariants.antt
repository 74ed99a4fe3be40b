-- `listing::shape::others` meets its contract. The loop's invariant: the signs of the first b parentheses stand.
-- Assumes nothing.
use mathlib.Core.Path.{◌≡◌}
use Prim.Native.Nat.{ℕ, ◌<◌}
use mathlib.Core.List.{map}
use lib.ListN.{get_or}
use Rattle.rules.specs.Bytes.{parens}
use Rattle.rules.specs.Listing.{sign}
use Rattle.listing.proofs.shape.others.Given as goal

abbrev pub invariant-loop-b : goal.invariant-loop-b
invariant-loop-b l = (j : ℕ) → j < l.b → get_or l.out j 0 ≡ get_or (map sign (parens l.fn.checked.entries l.fn.checked.bytes.now)) j 0
