-- What the masks make of each byte at each place, by a computed test over all of them.
-- Assumes nothing.
use mathlib.Core.Path.{◌≡◌, refl}
use Prim.Native.Nat.{ℕ, ◌-◌, ◌*◌, ◌/◌, ◌%◌, ◌^◌, ◌≤◌, ◌<◌}
use native.Mathlib.Omega.{arith}
use mathlib.Core.Bool
use mathlib.Core.Bool.{Bool, true, false, not, ◌&&◌}
use mathlib.Core.List.{List, ◌++◌}
use lib.Bits.{bit_or}
use lib.Dec.{T, leb, ltb, eqb, leb→le, ltb→lt}
use lib.ListN.{take, drop, replicate}
use Rattle.rules.specs.Shape.{Paren, opening, closing}
use Rattle.rules.specs.Excess.{openings}
use Rattle.rules.specs.Bytes.{low_bits, paren}
use Rattle.rules.proofs.Every.{all_below, below_at, and_left, and_right}
use Rattle.rules.proofs.Same.{same, same_eq}

-- a byte, as the code works it out, whose bits are s
pub record Made (v : ℕ) (s : List Paren) : Type 0 where
  pub byte : v < 256
  pub bits : low_bits 8 v ≡ s

made : ℕ → List Paren → Bool
made v s = ltb v 256 && same (low_bits 8 v) s

is_made : (v : ℕ) (s : List Paren) → T (made v s) → Made v s
unfolding made
is_made v s t =
    record {
      byte = ltb→lt v 256 (and_left (ltb v 256) (same (low_bits 8 v) s) t);
      bits = same_eq (low_bits 8 v) s (and_right (ltb v 256) (same (low_bits 8 v) s) t);
    }

-- a rule of each place of each byte
at_each : (f : ℕ → ℕ → Bool) → T (all_below 9 (λ k. all_below 256 (f k))) → (k b : ℕ) → k ≤ 8 → b < 256 → T (f k b)
at_each f t k b h l = below_at 256 (f k) (below_at 9 (λ k. all_below 256 (f k)) t k (omega arith)) b l

abbrev pub place : ℕ → ℕ
place k = 1 * 2 ^ k % 4294967296

abbrev pub raise : ℕ → ℕ → ℕ
raise k b = bit_or b (256 - place k)

abbrev pub clear : ℕ → ℕ → ℕ
clear k b = b / 2 ^ k * 2 ^ k % 4294967296

pub place_small : (k : ℕ) → k ≤ 8 → place k ≤ 256
place_small k h = leb→le (place k) 256 (below_at 9 (λ k. leb (place k) 256) tt k (omega arith))

pub opens_from : (k b : ℕ) → k ≤ 8 → b < 256 → not (eqb (b / 2 ^ k) 0) ≡ ltb 0 (openings (drop k (low_bits 8 b)))
unfolding openings low_bits paren
opens_from k b h l =
    beq (not (eqb (b / 2 ^ k) 0)) (ltb 0 (openings (drop k (low_bits 8 b))))
    (at_each (λ k b. Bool.beq (not (eqb (b / 2 ^ k) 0)) (ltb 0 (openings (drop k (low_bits 8 b))))) tt k b h l)
  where
    beq : (x y : Bool) → T (Bool.beq x y) → x ≡ y
    beq true true t = refl
    beq true false t = absurd t
    beq false true t = absurd t
    beq false false t = refl

pub raise-made : (k b : ℕ) → k ≤ 8 → b < 256 → Made (raise k b) (take k (low_bits 8 b) ++ replicate (8 - k) opening)
unfolding made low_bits paren
raise-made k b h l =
    is_made (raise k b) (take k (low_bits 8 b) ++ replicate (8 - k) opening)
    (at_each (λ k b. made (raise k b) (take k (low_bits 8 b) ++ replicate (8 - k) opening)) tt k b h l)

pub clear-made : (k b : ℕ) → k ≤ 8 → b < 256 → Made (clear k b) (replicate k closing ++ drop k (low_bits 8 b))
unfolding made low_bits paren
clear-made k b h l =
    is_made (clear k b) (replicate k closing ++ drop k (low_bits 8 b))
    (at_each (λ k b. made (clear k b) (replicate k closing ++ drop k (low_bits 8 b))) tt k b h l)
