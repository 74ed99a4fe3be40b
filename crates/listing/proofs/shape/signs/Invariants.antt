-- `listing::shape::signs` meets its contract. The loop's invariant: the signs of the first k bytes stand.
-- Assumes nothing.
use mathlib.Core.Path.{◌≡◌}
use Prim.Native.Nat.{ℕ, ◌*◌, ◌<◌}
use mathlib.Core.List.{map}
use lib.ListN.{get_or}
use Rattle.rules.specs.Bytes.{parens}
use Rattle.rules.specs.Listing.{sign}
use Rattle.listing.proofs.shape.signs.Given as goal

abbrev pub invariant-loop-k : goal.invariant-loop-k
invariant-loop-k l = (j : ℕ) → j < 8 * l.k → get_or l.out j 0 ≡ get_or (map sign (parens l.fn.checked.entries l.fn.checked.bytes.now)) j 0
