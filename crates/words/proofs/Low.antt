-- Bits of a number in parts: the lowest, those above them, and two numbers put together.
-- Assumes nothing.
use mathlib.Core.Path.{◌≡◌, refl, ap, sym, ◌∙◌}
use Prim.Native.Nat.{ℕ, zero, suc, ◌+◌, ◌*◌, ◌/◌, ◌%◌, ◌^◌, ◌<◌}
use native.Mathlib.Nat.{zero-add, suc-add, div-one, mul_comm}
use native.Mathlib.Numerals.{add-one, one-add}
use native.Mathlib.Omega.{arith}
use mathlib.Core.List.{List, ◌∷◌, ◌++◌}
use lib.Pow.{shr-shr, field, mod-mod-pow, high, low as low-digits}
use Rattle.rules.specs.Shape.{Paren}
use Rattle.rules.specs.Bytes.{paren, low_bits}

pub low_bits_add : (j k x : ℕ) → low_bits (j + k) x ≡ low_bits j x ++ low_bits k (x / 2 ^ j)
unfolding low_bits
low_bits_add zero k x = rw (zero-add k, div-one x)
low_bits_add (suc j) k x =
    let e : x / 2 / 2 ^ j ≡ x / 2 ^ suc j = shr-shr x 1 j ∙ rw (one-add j) in
    rw (suc-add j k, ← e) (ap (λ (l : List Paren). paren (x % 2) ∷ l) (low_bits_add j k (x / 2)))

-- bits above are not looked at
pub low_bits_low : (k x : ℕ) → low_bits k (x % 2 ^ k) ≡ low_bits k x
unfolding low_bits
low_bits_low zero x = refl
low_bits_low (suc k) x =
    let e : x % 2 ^ suc k % 2 ≡ x % 2 = rw (← (add-one k)) (mod-mod-pow x k 1) in
    let f : x % 2 ^ suc k / 2 ≡ x / 2 % 2 ^ k = rw (← (add-one k)) (field x k 1) in
    rw (e, f, low_bits_low k (x / 2))

-- a number put together of j bits below and k bits above
pub low_bits-join : (j k a b : ℕ) → a < 2 ^ j → low_bits (j + k) (a + 2 ^ j * b) ≡ low_bits j a ++ low_bits k b
low_bits-join j k a b h =
    let e : a + 2 ^ j * b ≡ b * 2 ^ j + a = rw (mul_comm (2 ^ j) b) (omega arith) in
    let low : low_bits j (b * 2 ^ j + a) ≡ low_bits j a = sym (low_bits_low j (b * 2 ^ j + a)) ∙ ap (low_bits j) (low-digits b j h) in
    rw (e, low_bits_add j k (b * 2 ^ j + a), high b j h, low)
