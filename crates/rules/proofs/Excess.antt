-- Laws of excess: counts of openings and closings, the excesses one parenthesis at a time, balanced computed and balanced said.
-- Each holds of any sequence of parentheses. Assumes nothing.
use mathlib.Core.Path.{◌≡◌, refl, ap}
use Prim.Native.Nat.{ℕ, zero, suc, min, ◌+◌, ◌-◌, ◌≤◌, ◌<◌, zero-le}
use native.Mathlib.Nat.{not-suc-le-zero, le_of_suc-le-suc}
use native.Mathlib.Numerals.{add-one}
use native.Mathlib.Omega.{arith}
use mathlib.Core.Bool.{true, false≢true}
use mathlib.Core.List.{List, [], ◌∷◌, ◌++◌}
use borrow.Author.Tests.{eqb-true, eq-eqb}
use lib.ListN.{length, take, drop, get_or, length-take, length-drop}
use lib.Seq.{get_or-take, get_or-drop, take-take, take-add, ext_get_or}
use Rattle.rules.specs.Shape.{Paren, opening, closing}
use Rattle.rules.specs.Excess.{openings, closings, excess, list_of, excesses, Balanced, balanced_from, balanced}

pub openings-append : (s t : List Paren) → openings (s ++ t) ≡ openings s + openings t
unfolding openings
openings-append [] t = omega arith
openings-append (opening ∷ s) t = omega (arith, openings-append s t)
openings-append (closing ∷ s) t = openings-append s t

pub closings-append : (s t : List Paren) → closings (s ++ t) ≡ closings s + closings t
unfolding closings
closings-append [] t = omega arith
closings-append (opening ∷ s) t = closings-append s t
closings-append (closing ∷ s) t = omega (arith, closings-append s t)

pub counts-length : (s : List Paren) → openings s + closings s ≡ length s
unfolding openings closings
counts-length [] = refl
counts-length (opening ∷ s) = omega (arith, counts-length s)
counts-length (closing ∷ s) = omega (arith, counts-length s)

-- ---- lists by their rule

pub length-list_of : (n : ℕ) (f : ℕ → ℕ) → length (list_of n f) ≡ n
unfolding list_of
length-list_of zero f = refl
length-list_of (suc n) f = ap suc (length-list_of n (λ k. f (suc k)))

pub get_d_list_of : (n : ℕ) (f : ℕ → ℕ) (k d : ℕ) → k < n → get_or (list_of n f) k d ≡ f k
unfolding list_of
get_d_list_of zero f k d h = absurd (not-suc-le-zero h)
get_d_list_of (suc n) f zero d h = refl
get_d_list_of (suc n) f (suc k) d h = get_d_list_of n (λ k. f (suc k)) k d (le_of_suc-le-suc h)

pub list_of_ext : (n : ℕ) (f g : ℕ → ℕ) → ((k : ℕ) → k < n → f k ≡ g k) → list_of n f ≡ list_of n g
unfolding list_of
list_of_ext zero f g h = refl
list_of_ext (suc n) f g h =
    rw (h 0 (omega arith), list_of_ext n (λ k. f (suc k)) (λ k. g (suc k)) (λ k l. h (suc k) (omega arith)))

-- ---- one parenthesis at a time

pub excess-opening : (e : ℕ) (s : List Paren) → excess e (opening ∷ s) 0 ≡ suc e
unfolding excess openings closings
excess-opening e s = omega arith

pub excess-opening_suc : (e : ℕ) (s : List Paren) (b : ℕ) → excess e (opening ∷ s) (suc b) ≡ excess (suc e) s b
unfolding excess openings closings
excess-opening_suc e s b = rw (add-one (suc b), add-one b) (omega arith)

pub excess-closing : (e : ℕ) (s : List Paren) → excess (suc e) (closing ∷ s) 0 ≡ e
unfolding excess openings closings
excess-closing e s = omega arith

pub excess-closing_suc : (e : ℕ) (s : List Paren) (b : ℕ) → excess (suc e) (closing ∷ s) (suc b) ≡ excess e s b
unfolding excess openings closings
excess-closing_suc e s b = rw (add-one (suc b), add-one b) (omega arith)

pub excesses-opening : (e : ℕ) (s : List Paren) → excesses e (opening ∷ s) ≡ suc e ∷ excesses (suc e) s
unfolding excesses list_of
excesses-opening e s =
    rw (excess-opening e s) (ap (λ (l : List ℕ). suc e ∷ l) (list_of_ext (length s) _ _ (λ k h. excess-opening_suc e s k)))

pub excesses-closing : (e : ℕ) (s : List Paren) → excesses (suc e) (closing ∷ s) ≡ e ∷ excesses e s
unfolding excesses list_of
excesses-closing e s =
    rw (excess-closing e s) (ap (λ (l : List ℕ). e ∷ l) (list_of_ext (length s) _ _ (λ k h. excess-closing_suc e s k)))

pub excesses-length : (e : ℕ) (s : List Paren) → length (excesses e s) ≡ length s
unfolding excesses
excesses-length e s = length-list_of (length s) (λ b. excess e s b)

pub excesses_at : (e : ℕ) (s : List Paren) (b : ℕ) → b < length s → get_or (excesses e s) b 0 ≡ excess e s b
unfolding excesses
excesses_at e s b h = get_d_list_of (length s) (λ b. excess e s b) b 0 h

-- the excesses of the first parentheses, and of those behind them
pub excesses-take : (e : ℕ) (s : List Paren) (m : ℕ) → take m (excesses e s) ≡ excesses e (take m s)
unfolding excess
excesses-take e s m =
    ext_get_or 0 (take m (excesses e s)) (excesses e (take m s)) (simp (length-take, excesses-length)) at
  where
    at : (b : ℕ) → b < length (take m (excesses e s)) → get_or (take m (excesses e s)) b 0 ≡ get_or (excesses e (take m s)) b 0
    at b h =
        let l : b < min m (length s) = simp (length-take, excesses-length) at h in
        rw (get_or-take m (excesses e s) b 0 (omega arith), excesses_at e s b (omega arith), excesses_at e (take m s) b (omega (arith, length-take m s)), take-take (b + 1) m s (omega arith))

pub excesses-drop : (e f : ℕ) (s : List Paren) (j : ℕ) → f + closings (take j s) ≡ e + openings (take j s)
    → drop j (excesses e s) ≡ excesses f (drop j s)
unfolding excess
excesses-drop e f s j g =
    ext_get_or 0 (drop j (excesses e s)) (excesses f (drop j s)) (simp (length-drop, excesses-length)) at
  where
    at : (b : ℕ) → b < length (drop j (excesses e s)) → get_or (drop j (excesses e s)) b 0 ≡ get_or (excesses f (drop j s)) b 0
    at b h =
        let l : b < length s - j = simp (length-drop, excesses-length) at h in
        let k : j + b + 1 ≡ j + (b + 1) = omega arith in
        rw (get_or-drop j (excesses e s) b 0, excesses_at e s (j + b) (omega arith), excesses_at f (drop j s) b (omega (arith, length-drop j s)), k, take-add j (b + 1) s, openings-append, closings-append)
        (omega arith)

-- ---- balanced, from an excess of e on

pub record Kept (e : ℕ) (s : List Paren) : Type 0 where
  pub above : (b : ℕ) → closings (take b s) ≤ e + openings (take b s)
  pub last : e + openings s ≡ closings s

pub kept_is : (e : ℕ) (s : List Paren) → balanced_from e s ≡ true → Kept e s
unfolding balanced_from openings closings
kept_is e [] t = record { above = above; last = omega (arith, eqb-true e 0 t) }
  where
    above : (b : ℕ) → closings (take b []) ≤ e + openings (take b [])
    above zero = zero-le
    above (suc b) = zero-le
kept_is e (opening ∷ s) t =
    let k = kept_is (suc e) s t in record { above = above k.above; last = omega (arith, k.last) }
  where
    above : ((b : ℕ) → closings (take b s) ≤ suc e + openings (take b s)) → (b : ℕ) → closings (take b (opening ∷ s)) ≤ e + openings (take b (opening ∷ s))
    above h zero = zero-le
    above h (suc b) = omega (arith, h b)
kept_is zero (closing ∷ s) t = absurd (false≢true t)
kept_is (suc e) (closing ∷ s) t =
    let k = kept_is e s t in record { above = above k.above; last = omega (arith, k.last) }
  where
    above : ((b : ℕ) → closings (take b s) ≤ e + openings (take b s)) → (b : ℕ) → closings (take b (closing ∷ s)) ≤ suc e + openings (take b (closing ∷ s))
    above h zero = zero-le
    above h (suc b) = omega (arith, h b)

-- what is kept of the rest once one parenthesis is read
pub kept-opening : (e : ℕ) (s : List Paren) → Kept e (opening ∷ s) → Kept (suc e) s
unfolding openings closings
kept-opening e s k = record { above = λ b. omega (arith, k.above (suc b)); last = omega (arith, k.last) }

pub kept-closing : (e : ℕ) (s : List Paren) → Kept (suc e) (closing ∷ s) → Kept e s
unfolding openings closings
kept-closing e s k = record { above = λ b. omega (arith, k.above (suc b)); last = omega (arith, k.last) }

pub kept_not_closed : (s : List Paren) → Kept 0 (closing ∷ s) → ⊥
unfolding openings closings
kept_not_closed s k = let h : suc 0 ≤ 0 + 0 = k.above 1 in omega arith

pub is_kept : (e : ℕ) (s : List Paren) → Kept e s → balanced_from e s ≡ true
unfolding balanced_from openings closings
is_kept e [] k = let h : e + 0 ≡ 0 = k.last in eq-eqb e 0 (omega arith)
is_kept e (opening ∷ s) k = is_kept (suc e) s (kept-opening e s k)
is_kept zero (closing ∷ s) k = absurd (kept_not_closed s k)
is_kept (suc e) (closing ∷ s) k = is_kept e s (kept-closing e s k)

pub balanced_is : (s : List Paren) → balanced s ≡ true → Balanced s
unfolding balanced
balanced_is s t =
    let k = kept_is 0 s t in
    record { above = λ b. omega (arith, k.above b); last = omega (arith, k.last) }

pub is_balanced : (s : List Paren) → Balanced s → balanced s ≡ true
unfolding balanced
is_balanced s w = is_kept 0 s (record { above = λ b. omega (arith, w.above b); last = omega (arith, w.last) })
