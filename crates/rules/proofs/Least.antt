-- `least` computes the place that `IsLeast` names, and there is one only. Then the leftmost smallest place of a part of a list, of a whole
-- list (`Lowest`), and of a list with one more entry at the front. Assumes nothing.
use mathlib.Core.Path.{◌≡◌, refl}
use Prim.Native.Nat.{ℕ, zero, suc, ◌+◌, ◌-◌, ◌≤◌, ◌<◌, zero-le}
use mathlib.Core.Bool.{Bool, true, false, cond}
use mathlib.Core.List.{List, [], ◌∷◌, ◌++◌}
use native.Mathlib.Nat.{le_refl, le_antisymm, add-suc, zero-add, add-sub_of_le}
use native.Mathlib.Decide.{dec_le}
use native.Mathlib.Omega.{arith}
use borrow.Author.Tests.{ltb-true, ltb-false}
use lib.Dec.{ltb}
use lib.ListN.{length, take, drop, get_or, length-append, get_or-append}
use lib.Seq.{get_or-take, get_or-drop, get_or-append_seam, get_or-append-add}
use Rattle.rules.specs.Column.{IsLeast, least_of, least}

-- its number is at most any other's
pub least-smallest : {c : List ℕ} {i j p : ℕ} → IsLeast c i j p → (k : ℕ) → i ≤ k → k ≤ j → get_or c p 0 ≤ get_or c k 0
least-smallest {c} {i} {j} {p} h k a b = by (dec_le p k)
  where
    by : Dec (p ≤ k) → get_or c p 0 ≤ get_or c k 0
    by (yes g) = h.after k g b
    by (no g) = let g' : k < p = omega arith in omega (arith, h.before k a g')

-- one more place
next : {c : List ℕ} {i j p : ℕ} → IsLeast c i j p → IsLeast c i (suc j) (cond (ltb (get_or c (suc j) 0) (get_or c p 0)) (suc j) p)
next {c} {i} {j} {p} h = by (ltb (get_or c (suc j) 0) (get_or c p 0)) refl
  where
    by : (t : Bool) → ltb (get_or c (suc j) 0) (get_or c p 0) ≡ t → IsLeast c i (suc j) (cond t (suc j) p)
    by true e =
        record {
          from = omega (arith, h);
          upto = le_refl (suc j);
          before = λ k a b. let b' : k ≤ j = omega arith in omega (arith, ltb-true, least-smallest h k a b');
          after = λ k a b. rw (le_antisymm a b) (le_refl (get_or c k 0));
        }
    by false e =
        record {
          from = h.from;
          upto = omega (arith, h);
          before = h.before;
          after = λ k a b. last k a (dec_le k j) b;
        }
      where
        last : (k : ℕ) → p ≤ k → Dec (k ≤ j) → k ≤ suc j → get_or c p 0 ≤ get_or c k 0
        last k a (yes g) b = h.after k a g
        last k a (no g) b = let q : k ≡ suc j = omega arith in rw q (ltb-false _ _ e)

least_of_is : (c : List ℕ) (i m : ℕ) → IsLeast c i (i + m) (least_of c i m)
unfolding least_of
least_of_is c i zero =
    record {
      from = le_refl i;
      upto = omega arith;
      before = λ k a b. absurd (omega arith);
      after = λ k a b. let e : i ≡ k = omega arith in rw e (le_refl (get_or c k 0));
    }
least_of_is c i (suc m) = rw (add-suc i m) (next (least_of_is c i m))

pub least_is : (c : List ℕ) (i j : ℕ) → i ≤ j → IsLeast c i j (least c i j)
unfolding least
least_is c i j h = rw (add-sub_of_le h) at (least_of_is c i (j - i))

pub least_unique : {c : List ℕ} {i j p q : ℕ} → IsLeast c i j p → IsLeast c i j q → p ≡ q
least_unique {c} {i} {j} {p} {q} x y = le_antisymm (not-past x y) (not-past y x)
  where
    not-past : {p q : ℕ} → IsLeast c i j p → IsLeast c i j q → p ≤ q
    not-past {p} {q} x y = by (dec_le p q)
      where
        by : Dec (p ≤ q) → p ≤ q
        by (yes h) = h
        by (no h) = let g : q < p = omega arith in absurd (omega (arith, x.before q y.from g, y.after p (omega arith) x.upto))

-- ---- parts of a list

-- c's numbers up to place j are d's from place k on
moved : {c : List ℕ} {i j q : ℕ} (d : List ℕ) (k : ℕ) → ((x : ℕ) → x ≤ j → get_or c x 0 ≡ get_or d (k + x) 0)
    → IsLeast c i j q → IsLeast d (k + i) (k + j) (k + q)
moved {c} {i} {j} {q} d k s h =
    record {
      from = omega (arith, h);
      upto = omega (arith, h);
      before = λ x a b.
          let l : x - k ≤ j = omega (arith, h) in
          omega (arith, h.before (x - k) (omega arith) (omega arith), s q h.upto, at x (omega arith) l);
      after = λ x a b.
          let l : x - k ≤ j = omega (arith, h) in
          omega (arith, h.after (x - k) (omega arith) l, s q h.upto, at x (omega arith) l);
    }
  where
    at : (x : ℕ) → k ≤ x → x - k ≤ j → get_or c (x - k) 0 ≡ get_or d x 0
    at x a l = rw (add-sub_of_le a) at (s (x - k) l)

pub least-drop : (k : ℕ) (c : List ℕ) (i j : ℕ) → i ≤ j → least c (k + i) (k + j) ≡ k + least (drop k c) i j
least-drop k c i j h =
    least_unique (least_is c (k + i) (k + j) (omega arith)) (moved c k (λ x l. get_or-drop k c x 0) (least_is (drop k c) i j h))

pub least-take : (k : ℕ) (c : List ℕ) (i j : ℕ) → i ≤ j → j < k → least c i j ≡ least (take k c) i j
least-take k c i j h g =
    least_unique (least_is c i j h) (simp zero-add at (moved c 0 same (least_is (take k c) i j h)))
  where
    same : (x : ℕ) → x ≤ j → get_or (take k c) x 0 ≡ get_or c (0 + x) 0
    same x l = rw zero-add (get_or-take k c x 0 (omega arith))

-- ---- a whole list

-- q is the leftmost smallest place of all c
pub record Lowest (c : List ℕ) (q : ℕ) : Type 0 where
  pub within : q < length c
  pub before : (k : ℕ) → k < q → get_or c q 0 < get_or c k 0
  pub after : (k : ℕ) → q ≤ k → k < length c → get_or c q 0 ≤ get_or c k 0

-- then so it is from any place before it to any after it
lowest_is : {c : List ℕ} {q : ℕ} → Lowest c q → (i j : ℕ) → i ≤ q → q ≤ j → j < length c → IsLeast c i j q
lowest_is h i j a b l =
    record { from = a; upto = b; before = λ k x y. h.before k y; after = λ k x y. h.after k x (omega arith) }

pub lowest-least : {c : List ℕ} {q : ℕ} → Lowest c q → (i j : ℕ) → i ≤ q → q ≤ j → j < length c → least c i j ≡ q
lowest-least {c} h i j a b l = least_unique (least_is c i j (omega arith)) (lowest_is h i j a b l)

pub lowest-smallest : {c : List ℕ} {q : ℕ} → Lowest c q → (k : ℕ) → k < length c → get_or c q 0 ≤ get_or c k 0
lowest-smallest {c} {q} h k l = least-smallest (lowest_is h 0 (length c - 1) zero-le (omega (arith, h)) (omega arith)) k zero-le (omega arith)

-- an entry with greater ones before it and none smaller after it
pub lowest-joined : (l : List ℕ) (m : ℕ) (r : List ℕ) → ((k : ℕ) → k < length l → m < get_or l k 0)
    → ((k : ℕ) → k < length r → m ≤ get_or r k 0) → Lowest (l ++ m ∷ r) (length l)
lowest-joined l m r f g =
    record {
      within = simp length-append (omega arith);
      before = λ k x. rw (get_or-append_seam, get_or-append l (m ∷ r) 0 k x) (f k x);
      after = λ k x y. rw get_or-append_seam (after k x (rw length-append at y));
    }
  where
    from : (k : ℕ) → k < suc (length r) → m ≤ get_or (m ∷ r) k 0
    from zero x = le_refl m
    from (suc k) x = g k (omega arith)

    after : (k : ℕ) → length l ≤ k → k < length l + suc (length r) → m ≤ get_or (l ++ m ∷ r) k 0
    after k x y =
        let e : length l + (k - length l) ≡ k = omega arith in
        rw (← e, get_or-append-add) (from (k - length l) (omega arith))

pub lowest_only : (a : ℕ) → Lowest (a ∷ []) 0
lowest_only a = lowest-joined [] a [] (λ k x. absurd (omega arith)) (λ k x. absurd (omega arith))

-- one more entry at the front, at most the smallest
pub lowest_first : {c : List ℕ} {q a : ℕ} → Lowest c q → a ≤ get_or c q 0 → Lowest (a ∷ c) 0
lowest_first {c} {q} {a} h l =
    lowest-joined [] a c (λ k x. absurd (omega arith)) (λ k x. omega (arith, lowest-smallest h k x))

-- one more entry at the front, above the smallest
pub lowest-later : {c : List ℕ} {q a : ℕ} → Lowest c q → get_or c q 0 < a → Lowest (a ∷ c) (suc q)
lowest-later {c} {q} {a} h l =
    record { within = omega (arith, h); before = λ k x. before k x; after = λ k x y. after k x y }
  where
    before : (k : ℕ) → k < suc q → get_or c q 0 < get_or (a ∷ c) k 0
    before zero x = l
    before (suc k) x = h.before k (omega arith)

    after : (k : ℕ) → suc q ≤ k → k < suc (length c) → get_or c q 0 ≤ get_or (a ∷ c) k 0
    after zero x y = absurd (omega arith)
    after (suc k) x y = h.after k (omega arith) (omega arith)
