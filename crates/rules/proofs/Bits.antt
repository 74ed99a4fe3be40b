-- Laws of `bits`: openings in front, and how large the number of a few parentheses can be.
-- Assumes nothing.
use mathlib.Core.Path.{◌≡◌}
use Prim.Native.Nat.{ℕ, zero, suc, ◌*◌, ◌^◌, ◌≤◌, ◌<◌}
use native.Mathlib.Nat.{pow-zero, pow-succ', mul-one, mul_left_comm}
use native.Mathlib.Omega.{arith}
use mathlib.Core.List.{List, [], ◌∷◌, ◌++◌}
use lib.ListN.{take, replicate}
use lib.Pow.{pow_pos}
use Rattle.rules.specs.Shape.{Paren, opening, closing}
use Rattle.rules.specs.Bytes.{bit, bits}

-- k openings in front: one more than the number is shifted by k
pub bits-opened : (k : ℕ) (s : List Paren) → suc (bits (replicate k opening ++ s)) ≡ suc (bits s) * 2 ^ k
unfolding bits bit
bits-opened zero s = rw (pow-zero, mul-one)
bits-opened (suc k) s =
    let ih : suc (bits (replicate k opening ++ s)) ≡ suc (bits s) * 2 ^ k = bits-opened k s in
    rw (pow-succ', mul_left_comm) (omega arith)

bit_le : (p : Paren) → bit p ≤ 1
unfolding bit
bit_le opening = omega arith
bit_le closing = omega arith

pub bits_below : (k : ℕ) (s : List Paren) → bits (take k s) < 2 ^ k
unfolding bits
bits_below zero s = pow_pos 0
bits_below (suc k) [] = pow_pos (suc k)
bits_below (suc k) (p ∷ s) = rw pow-succ' (omega (arith, bit_le p, bits_below k s))
