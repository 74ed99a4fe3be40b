-- Where closing number k stands: k closings are before it, and it is among any parentheses that have more than k.
-- Each law holds of any sequence of parentheses. Assumes nothing.
use mathlib.Core.Path.{◌≡◌, refl, ap}
use Prim.Native.Nat.{ℕ, zero, suc, ◌+◌, ◌-◌, ◌≤◌, ◌<◌}
use mathlib.Core.List.{List, [], ◌∷◌, ◌++◌}
use native.Mathlib.Decide.{dec_le}
use native.Mathlib.Omega.{arith}
use lib.ListN.{length, take, drop, length-take, take-append-drop}
use lib.Seq.{take-add}
use Rattle.rules.specs.Shape.{Paren, opening, closing}
use Rattle.rules.specs.Excess.{openings, closings, closing_place}
use Rattle.rules.proofs.Excess.{openings-append, closings-append, counts-length}

-- a longer part has no fewer of anything that is counted
counted-more : (count : List Paren → ℕ) → ((s t : List Paren) → count (s ++ t) ≡ count s + count t)
    → (s : List Paren) (a b : ℕ) → a ≤ b → count (take a s) ≤ count (take b s)
counted-more count append s a b h =
    let e : a + (b - a) ≡ b = omega arith in
    omega (arith, rw (e, append) at (ap count (take-add a (b - a) s)))

pub openings-more : (s : List Paren) (a b : ℕ) → a ≤ b → openings (take a s) ≤ openings (take b s)
openings-more = counted-more openings openings-append

pub closings-more : (s : List Paren) (a b : ℕ) → a ≤ b → closings (take a s) ≤ closings (take b s)
closings-more = counted-more closings closings-append

pub closings_part : (s : List Paren) (a : ℕ) → closings (take a s) ≤ closings s
closings_part s a =
    omega (arith, closings-append (take a s) (drop a s), ap closings (take-append-drop a s))

-- b parentheses more have at most b closings more
pub closings_few : (s : List Paren) (a b : ℕ) → closings (take (a + b) s) ≤ closings (take a s) + b
closings_few s a b =
    omega (arith, rw closings-append at (ap closings (take-add a b s)), counts-length (take b (drop a s)), length-take b (drop a s))

pub closing-within : (s : List Paren) (k : ℕ) → k < closings s → closing_place s k < length s
unfolding closings closing_place
closing-within [] k h = absurd (omega arith)
closing-within (opening ∷ s) k h = omega (arith, closing-within s k h)
closing-within (closing ∷ s) zero h = omega arith
closing-within (closing ∷ s) (suc k) h = omega (arith, closing-within s k (omega arith))

-- k closings are before parenthesis b, and one more up to and with it
pub record Stands (s : List Paren) (k b : ℕ) : Type 0 where
  pub before : closings (take b s) ≡ k
  pub upto : closings (take (suc b) s) ≡ suc k

pub closing_stands : (s : List Paren) (k : ℕ) → k < closings s → Stands s k (closing_place s k)
unfolding closings closing_place
closing_stands [] k h = absurd (omega arith)
closing_stands (opening ∷ s) k h = let r = closing_stands s k h in record { before = r.before; upto = r.upto }
closing_stands (closing ∷ s) zero h = record { before = refl; upto = refl }
closing_stands (closing ∷ s) (suc k) h =
    let r = closing_stands s k (omega arith) in record { before = ap suc r.before; upto = ap suc r.upto }

-- it is among the first b parentheses where these have more than k closings
pub closing-among : (s : List Paren) (k b : ℕ) → k < closings (take b s) → closing_place s k < b
unfolding closings closing_place
closing-among s k zero h = absurd (omega arith)
closing-among [] k (suc b) h = absurd (omega arith)
closing-among (opening ∷ s) k (suc b) h = omega (arith, closing-among s k b h)
closing-among (closing ∷ s) zero (suc b) h = omega arith
closing-among (closing ∷ s) (suc k) (suc b) h = omega (arith, closing-among s k b (omega arith))

-- it is behind the first a parentheses where these have no more than k
pub closing_behind : (s : List Paren) (k a : ℕ) → closings (take a s) ≤ k → k < closings s → a ≤ closing_place s k
closing_behind s k a h l = by (dec_le a (closing_place s k))
  where
    by : Dec (a ≤ closing_place s k) → a ≤ closing_place s k
    by (yes g) = g
    by (no g) =
        let near : suc (closing_place s k) ≤ a = omega arith in
        absurd (omega (arith, closing_stands s k l, closings-more s (suc (closing_place s k)) a near))

pub closing-order : (s : List Paren) (i k : ℕ) → i ≤ k → k < closings s → closing_place s i ≤ closing_place s k
closing-order s i k h l =
    omega (arith, closing-among s i (suc (closing_place s k)) (omega (arith, closing_stands s k l)))
