-- The bits that are not set are the closings: counted by themselves, and by those that are set.
-- Assumes nothing.
use mathlib.Core.Path.{◌≡◌, ◌∙◌}
use Prim.Native.Nat.{ℕ, zero, suc, ◌+◌, ◌-◌, ◌*◌, ◌/◌, ◌%◌, ◌^◌, ◌<◌}
use native.Mathlib.Nat.{pow-suc}
use native.Mathlib.Omega.{arith}
use mathlib.Core.List.{List, ◌∷◌}
use lib.Count.{ones, ones_step}
use Rattle.rules.specs.Shape.{Paren}
use Rattle.rules.specs.Excess.{closings}
use Rattle.rules.specs.Bytes.{paren, low_bits}

first : (b : ℕ) (s : List Paren) → b < 2 → closings (paren b ∷ s) ≡ 1 - b + closings s
unfolding closings paren
first zero s h = omega arith
first (suc b) s h = omega arith

pub zeros_close : (k x : ℕ) → x < 2 ^ k → ones (2 ^ k - 1 - x) ≡ closings (low_bits k x)
unfolding low_bits closings ones
zeros_close zero x h = let e : 1 - 1 - x ≡ 0 = omega arith in rw e
zeros_close (suc k) x h =
    let g : x < 2 ^ k * 2 = rw (pow-suc 2 k) at h in
    let m = 2 ^ k in
    let low : (m * 2 - 1 - x) % 2 ≡ 1 - x % 2 = omega arith in
    let high : (m * 2 - 1 - x) / 2 ≡ m - 1 - x / 2 = omega arith in
    rw (pow-suc 2 k) (ones_step (m * 2 - 1 - x) ∙ rw (low, high, zeros_close k (x / 2) (omega arith), first (x % 2) (low_bits k (x / 2)) (omega arith)))

pub ones_close : (k x : ℕ) → x < 2 ^ k → ones x + closings (low_bits k x) ≡ k
unfolding low_bits closings ones
ones_close zero x h = let e : x ≡ 0 = omega arith in rw e
ones_close (suc k) x h =
    let g : x < 2 ^ k * 2 = rw (pow-suc 2 k) at h in
    omega (arith, ones_step x, ones_close k (x / 2) (omega arith), first (x % 2) (low_bits k (x / 2)) (omega arith))
