-- Laws of bytes and bits: lengths, bytes one after the other, and a byte with its bits above some place opened.
-- Assumes nothing.
use mathlib.Core.Path.{◌≡◌, refl, ap, sym}
use Prim.Native.Nat.{ℕ, zero, suc, ◌+◌, ◌*◌, ◌/◌}
use native.Mathlib.Omega.{arith}
use mathlib.Core.List.{List, [], ◌∷◌, ◌++◌, append_assoc}
use lib.ListN.{length, take, drop, length-append}
use lib.Seq.{take-nil, drop-nil, take-append-add, drop-append-add}
use Rattle.rules.specs.Bytes.{low_bits, all_bits}

pub low_bits-length : (k b : ℕ) → length (low_bits k b) ≡ k
unfolding low_bits
low_bits-length zero b = refl
low_bits-length (suc k) b = ap suc (low_bits-length k (b / 2))

pub all_bits-length : (bs : List ℕ) → length (all_bits bs) ≡ 8 * length bs
unfolding all_bits
all_bits-length [] = refl
all_bits-length (b ∷ bs) =
    simp length-append (omega (arith, low_bits-length 8 b, all_bits-length bs))

pub all_bits-append : (xs ys : List ℕ) → all_bits (xs ++ ys) ≡ all_bits xs ++ all_bits ys
unfolding all_bits
all_bits-append [] ys = refl
all_bits-append (b ∷ xs) ys = rw (all_bits-append xs ys, append_assoc)

-- bytes at the front, and bytes behind some
pub all_bits-take : (j : ℕ) (bs : List ℕ) → all_bits (take j bs) ≡ take (8 * j) (all_bits bs)
unfolding all_bits
all_bits-take zero bs = refl
all_bits-take (suc j) [] = sym (take-nil (8 * suc j))
all_bits-take (suc j) (b ∷ bs) =
    let e : 8 * suc j ≡ length (low_bits 8 b) + 8 * j = omega (arith, low_bits-length 8 b) in
    rw (e, take-append-add, all_bits-take j bs)

pub all_bits-drop : (j : ℕ) (bs : List ℕ) → all_bits (drop j bs) ≡ drop (8 * j) (all_bits bs)
unfolding all_bits
all_bits-drop zero bs = refl
all_bits-drop (suc j) [] = sym (drop-nil (8 * suc j))
all_bits-drop (suc j) (b ∷ bs) =
    let e : 8 * suc j ≡ length (low_bits 8 b) + 8 * j = omega (arith, low_bits-length 8 b) in
    rw (e, drop-append-add, all_bits-drop j bs)
