-- Sequences and bytes in parts: where a closing stands in sequences joined, and the bits of bytes cut around one of them.
-- Assumes nothing.
use mathlib.Core.Path.{◌≡◌, refl, ap, ◌∙◌}
use Prim.Native.Nat.{ℕ, zero, suc, ◌+◌, ◌-◌, ◌≤◌, ◌<◌}
use native.Mathlib.Nat.{suc-add, sub-zero, suc-sub-suc}
use native.Mathlib.Omega.{arith}
use mathlib.Core.List.{List, [], ◌∷◌, ◌++◌}
use lib.ListN.{length, take, drop, get_or}
use lib.Seq.{split_at}
use Rattle.rules.specs.Shape.{Paren, opening, closing}
use Rattle.rules.specs.Excess.{closings, closing_place}
use Rattle.rules.specs.Bytes.{low_bits, all_bits}
use Rattle.rules.proofs.Bytes.{all_bits-append}

-- a closing of the first part stands where it stood
pub closing_first : (s t : List Paren) (k : ℕ) → k < closings s → closing_place (s ++ t) k ≡ closing_place s k
unfolding closings closing_place
closing_first [] t k h = absurd (omega arith)
closing_first (opening ∷ s) t k h = ap suc (closing_first s t k h)
closing_first (closing ∷ s) t zero h = refl
closing_first (closing ∷ s) t (suc k) h = ap suc (closing_first s t k (omega arith))

-- one of the second part stands behind the first
pub closing_second : (s t : List Paren) (k : ℕ) → closings s ≤ k → closing_place (s ++ t) k ≡ length s + closing_place t (k - closings s)
unfolding closings closing_place
closing_second [] t k h = rw (sub-zero k) (omega arith)
closing_second (opening ∷ s) t k h = rw (suc-add (length s) (closing_place t (k - closings s))) (ap suc (closing_second s t k h))
closing_second (closing ∷ s) t zero h = absurd (omega arith)
closing_second (closing ∷ s) t (suc k) h =
    rw (suc-sub-suc k (closings s), suc-add (length s) (closing_place t (k - closings s))) (ap suc (closing_second s t k (omega arith)))

-- and what stands there closes
pub closing-closes : (s : List Paren) (k : ℕ) → k < closings s → get_or s (closing_place s k) opening ≡ closing
unfolding closings closing_place
closing-closes [] k h = absurd (omega arith)
closing-closes (opening ∷ s) k h = closing-closes s k h
closing-closes (closing ∷ s) zero h = refl
closing-closes (closing ∷ s) (suc k) h = closing-closes s k (omega arith)

pub all_bits-cut : (bs : List ℕ) (m : ℕ) → m < length bs
    → all_bits bs ≡ all_bits (take m bs) ++ (low_bits 8 (get_or bs m 0) ++ all_bits (drop (suc m) bs))
unfolding all_bits
all_bits-cut bs m h =
    ap all_bits (split_at bs m 0 h) ∙ all_bits-append (take m bs) (get_or bs m 0 ∷ drop (suc m) bs)
