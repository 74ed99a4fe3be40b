-- What the constants say of four bits, by a computed test over all of them.
-- Assumes nothing.
use mathlib.Core.Path.{◌≡◌}
use Prim.Native.Nat.{ℕ, ◌+◌, ◌*◌, ◌/◌, ◌%◌, ◌^◌, ◌<◌}
use native.Mathlib.Omega.{arith}
use mathlib.Core.Bool.{Bool, true, cond}
use borrow.Author.Tests.{lt-ltb}
use lib.Dec.{T, ltb, eqb, eqb→eq}
use Rattle.rules.specs.Excess.{closings, closing_place}
use Rattle.rules.specs.Bytes.{low_bits, paren}
use Rattle.rules.proofs.Every.{all_below, below_at}
use Rattle.words.proofs.Low.{low_bits_low}
use Rattle.blocks.proofs.Bits.{closings_few}

-- as the code works it out
abbrev pub placed : ℕ → ℕ → ℕ → ℕ
placed places v k = places / 2 ^ (4 * v + 2 * (k % 2)) % 4

-- the number that has the place of closing k
abbrev pub places_of : ℕ → ℕ
places_of k = cond (ltb k 2) 0x0014_2894_3cd4_e894 0x0000_0002_0003_033e

-- a rule of each four bits
four_bits : (f : ℕ → Bool) → T (all_below 16 f) → (x : ℕ) → T (f (x % 16))
four_bits f t x = below_at 16 f t (x % 16) (omega arith)

right : ℕ → ℕ → Bool
right k v = cond (ltb k (closings (low_bits 4 v))) (eqb (placed (places_of k) v k) (closing_place (low_bits 4 v) k)) true

tested : (k : ℕ) → k < 4 → (x : ℕ) → T (right k (x % 16))
unfolding right closings closing_place low_bits paren
tested k h = four_bits (right k) (below_at 4 (λ k. all_below 16 (right k)) tt k h)

pub place_right : (x k : ℕ) → k < closings (low_bits 4 x) → placed (places_of k) (x % 16) k ≡ closing_place (low_bits 4 x) k
unfolding right
place_right x k h =
    let v = x % 16 in
    let e : low_bits 4 v ≡ low_bits 4 x = low_bits_low 4 x in
    let l : k < closings (low_bits 4 v) = rw e h in
    let t : T (right k v) = tested k (omega (arith, closings_few 4 x)) x in
    rw (← e) (eqb→eq (placed (places_of k) v k) (closing_place (low_bits 4 v) k) (rw (lt-ltb k (closings (low_bits 4 v)) l) at t))
