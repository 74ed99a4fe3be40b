-- Document 01, "The shape of a column": closings and their numbers, excess, balanced, and the answer of an ask in the language of excess.
-- An excess can be below 0 in a sequence that is not balanced. So excesses are counted from a number e instead of from 0: an excess of x is
-- the number e + x. Where e is at least the sequence's length nothing is cut off; a balanced sequence may be counted from 0.
-- Nothing here asks that a sequence be some column's: the laws hold of any, so a mirrored kind of record can use them as they are.
use Rattle.std.specs.Prelude.{◌≡◌, ℕ, zero, suc, ◌+◌, ◌-◌, ◌≤◌, Bool, false, List, [], ◌∷◌, eqb, length, take}
use Rattle.rules.specs.Column.{least}
use Rattle.rules.specs.Shape.{Paren, opening, closing}

unfoldable pub openings : List Paren → ℕ
openings [] = 0
openings (opening ∷ s) = suc (openings s)
openings (closing ∷ s) = openings s

unfoldable pub closings : List Paren → ℕ
closings [] = 0
closings (opening ∷ s) = closings s
closings (closing ∷ s) = suc (closings s)

-- the place of closing number k
unfoldable pub closing_place : List Paren → ℕ → ℕ
closing_place [] k = 0
closing_place (opening ∷ s) k = suc (closing_place s k)
closing_place (closing ∷ s) zero = 0
closing_place (closing ∷ s) (suc k) = suc (closing_place s k)

-- the excess after parenthesis b: openings minus closings up to and with it, counted from e
unfoldable pub excess : ℕ → List Paren → ℕ → ℕ
excess e s b = e + openings (take (b + 1) s) - closings (take (b + 1) s)

-- f 0, f 1, .. , f (n - 1)
unfoldable pub list_of : ℕ → (ℕ → ℕ) → List ℕ
list_of zero f = []
list_of (suc n) f = f 0 ∷ list_of n (λ k. f (suc k))

-- the excesses after each parenthesis, in order
unfoldable pub excesses : ℕ → List Paren → List ℕ
excesses e s = list_of (length s) (λ b. excess e s b)

-- no excess is below 0 and the last is 0
pub record Balanced (s : List Paren) : Type 0 where
  pub above : (b : ℕ) → closings (take b s) ≤ openings (take b s)
  pub last : openings s ≡ closings s

-- the same, computed from an excess of e on; `balanced_is` and `is_balanced` (proofs/Excess) say that they are one
unfoldable pub balanced_from : ℕ → List Paren → Bool
balanced_from e [] = eqb e 0
balanced_from e (opening ∷ s) = balanced_from (suc e) s
balanced_from zero (closing ∷ s) = false
balanced_from (suc e) (closing ∷ s) = balanced_from e s

unfoldable pub balanced : List Paren → Bool
balanced s = balanced_from 0 s

-- the entry whose closing is the leftmost place of smallest excess from closing i to closing j
unfoldable pub entry_between : List Paren → ℕ → ℕ → ℕ
entry_between s i j = closings (take (least (excesses 0 s) (closing_place s i) (closing_place s j)) s)
