-- A rule of a table, proved at all of its entries by one test that antt computes, one entry after the other.
-- Assumes nothing.
use mathlib.Core.Path.{subst, subst⁻¹, sym, ◌∙◌}
use mathlib.Core.Logic.{⊎_elim}
use Prim.Native.Nat.{ℕ, zero, suc, ◌+◌, ◌<◌}
use native.Mathlib.Nat.{add-zero, zero-add, add-suc, suc-add, le_of_suc-le-suc, not-suc-le-zero, eq-or-lt_of_le}
use mathlib.Core.Bool.{Bool, true, false, ◌&&◌}
use mathlib.Core.List.{List, [], ◌∷◌}
use lib.Dec.{T}
use lib.ListN.{length, get_or}

pub and_left : (a b : Bool) → T (a && b) → T a
and_left true b t = tt
and_left false b t = t

pub and_right : (a b : Bool) → T (a && b) → T b
and_right true b t = t
and_right false b t = absurd t

module _ {A : Type 0} where
  -- the test f passes at each entry of the list and its place, counted from i
  abbrev pub every : (ℕ → A → Bool) → ℕ → List A → Bool
  every f i [] = true
  every f i (x ∷ xs) = f i x && every f (suc i) xs

  from : (f : ℕ → A → Bool) (d : A) (xs : List A) (i : ℕ) → T (every f i xs) → (k : ℕ) → k < length xs → T (f (i + k) (get_or xs k d))
  from f d [] i t k h = absurd (not-suc-le-zero h)
  from f d (x ∷ xs) i t zero h = subst (λ (m : ℕ). T (f m x)) (sym (add-zero i)) (and_left (f i x) (every f (suc i) xs) t)
  from f d (x ∷ xs) i t (suc k) h =
      subst (λ (m : ℕ). T (f m (get_or xs k d))) (suc-add i k ∙ sym (add-suc i k))
      (from f d xs (suc i) (and_right (f i x) (every f (suc i) xs) t) k (le_of_suc-le-suc h))

  pub every_at : (f : ℕ → A → Bool) (d : A) (xs : List A) → T (every f 0 xs) → (k : ℕ) → k < length xs → T (f k (get_or xs k d))
  every_at f d xs t k h = subst (λ (m : ℕ). T (f m (get_or xs k d))) (zero-add k) (from f d xs 0 t k h)

-- the same for a rule of each number below n
abbrev pub all_below : ℕ → (ℕ → Bool) → Bool
all_below zero f = true
all_below (suc n) f = f n && all_below n f

pub below_at : (n : ℕ) (f : ℕ → Bool) → T (all_below n f) → (k : ℕ) → k < n → T (f k)
below_at zero f t k h = absurd (not-suc-le-zero h)
below_at (suc n) f t k h =
    ⊎_elim (λ e. subst⁻¹ (λ (m : ℕ). T (f m)) e (and_left (f n) (all_below n f) t))
    (λ l. below_at n f (and_right (f n) (all_below n f) t) k l)
    (eq-or-lt_of_le (le_of_suc-le-suc h))
