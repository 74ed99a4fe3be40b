-- The stand-in column by a walk along the parentheses, which is how it is written and how the proofs go by it.
-- Assumes nothing.
use mathlib.Core.Path.{◌≡◌, refl, ap, ◌∙◌}
use Prim.Native.Nat.{ℕ, zero, suc, ◌+◌, ◌≤◌, ◌<◌, pred, zero-le}
use mathlib.Core.List.{List, [], ◌∷◌}
use native.Mathlib.Decide.{dec_lt}
use native.Mathlib.Omega.{arith}
use lib.ListN.{length, get_or, take-append-drop, get_or-eq_default}
use Rattle.rules.specs.Shape.{Paren, opening, closing}
use Rattle.rules.specs.Excess.{openings, closings, closing_place, excess, list_of, Balanced, balanced}
use Rattle.rules.specs.StandIn.{stand_in}
use Rattle.rules.proofs.Excess.{openings-append, length-list_of, get_d_list_of, list_of_ext, excess-opening_suc, excess-closing, excess-closing_suc}
use Rattle.rules.proofs.Excess.{Kept, kept-opening, kept-closing, kept_not_closed, kept_is, is_balanced}

-- the excesses just after each closing, from an excess of e on
unfoldable pub stand_in_from : ℕ → List Paren → List ℕ
stand_in_from e [] = []
stand_in_from e (opening ∷ s) = stand_in_from (suc e) s
stand_in_from e (closing ∷ s) = pred e ∷ stand_in_from (pred e) s

pub stand_in_length : (s : List Paren) → length (stand_in s) ≡ closings s
unfolding stand_in
stand_in_length s = length-list_of (closings s) (λ k. excess 0 s (closing_place s k))

pub stand_in_at : (s : List Paren) (k : ℕ) → k < closings s → get_or (stand_in s) k 0 ≡ excess 0 s (closing_place s k)
unfolding stand_in
stand_in_at s k h = get_d_list_of (closings s) (λ k. excess 0 s (closing_place s k)) k 0 h

-- a sequence begun at an excess of e
pub stand_in_from_lem : (e : ℕ) (s : List Paren) → Kept e s → list_of (closings s) (λ k. excess e s (closing_place s k)) ≡ stand_in_from e s
unfolding stand_in_from closings closing_place list_of
stand_in_from_lem e [] h = refl
stand_in_from_lem e (opening ∷ s) h =
    list_of_ext (closings s) _ _ (λ k l. excess-opening_suc e s (closing_place s k)) ∙ stand_in_from_lem (suc e) s (kept-opening e s h)
stand_in_from_lem zero (closing ∷ s) h = absurd (kept_not_closed s h)
stand_in_from_lem (suc e) (closing ∷ s) h =
    rw (excess-closing e s)
    (ap (λ (l : List ℕ). e ∷ l)
    (list_of_ext (closings s) _ _ (λ k l. excess-closing_suc e s (closing_place s k)) ∙ stand_in_from_lem e s (kept-closing e s h)))

pub stand_in_walk : (s : List Paren) → Balanced s → stand_in s ≡ stand_in_from 0 s
unfolding stand_in balanced
stand_in_walk s b = stand_in_from_lem 0 s (kept_is 0 s (is_balanced s b))

-- its entries are no greater than their number
pub stand_in_bound : (s : List Paren) → Balanced s → (k : ℕ) → get_or (stand_in s) k 0 ≤ closings s
unfolding excess
stand_in_bound s b k = by (dec_lt k (closings s))
  where
    by : Dec (k < closings s) → get_or (stand_in s) k 0 ≤ closings s
    by (yes l) =
        let p : ℕ = closing_place s k + 1 in
        rw (stand_in_at s k l) (omega (arith, b, rw openings-append at (ap openings (take-append-drop p s))))
    by (no l) =
        let past : length (stand_in s) ≤ k = rw stand_in_length (omega arith) in rw (get_or-eq_default (stand_in s) 0 past) zero-le
