-- Document 01, "What the host gets": a column is a list of counts, its entries numbered from 0. A question names i and j, both counted in.
-- Demands 2 and 3 speak of the leftmost smallest entry from i to j. It is said twice: `IsLeast` is the sentence itself, and `least` computes
-- the place; `least_is` and `least_unique` (proofs/Least) say that they are one.
-- Nothing here is about counts alone: the plain ask takes the leftmost smallest of a list of excesses by the same words.
use Rattle.std.specs.Prelude.{◌≡◌, ℕ, zero, suc, ◌+◌, ◌-◌, ◌≤◌, ◌<◌, cond, List, ltb, get_or}

-- q is the place of the leftmost smallest number of c from place i to place j, both counted in
pub record IsLeast (c : List ℕ) (i j q : ℕ) : Type 0 where
  pub from : i ≤ q
  pub upto : q ≤ j
  pub before : (k : ℕ) → i ≤ k → k < q → get_or c q 0 < get_or c k 0
  pub after : (k : ℕ) → q ≤ k → k ≤ j → get_or c q 0 ≤ get_or c k 0

-- the same among i and the m places after it: the next place wins only where its number is strictly smaller
unfoldable pub least_of : List ℕ → ℕ → ℕ → ℕ
least_of c i zero = i
least_of c i (suc m) =
    let p = least_of c i m in cond (ltb (get_or c (i + suc m) 0) (get_or c p 0)) (i + suc m) p

unfoldable pub least : List ℕ → ℕ → ℕ → ℕ
least c i j = least_of c i (j - i)

-- Two columns are alike when their leftmost smallest entries stand at the same places, for every first place not past the last
pub record Alike (n : ℕ) (c d : List ℕ) : Type 0 where
  pub same : (i j : ℕ) → i ≤ j → j < n → least c i j ≡ least d i j
