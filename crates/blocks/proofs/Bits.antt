-- A number's bits narrowed down to those of a part in which a closing stands.
-- Assumes nothing.
use mathlib.Core.Path.{◌≡◌, ap, sym}
use Prim.Native.Nat.{ℕ, ◌+◌, ◌-◌, ◌/◌, ◌^◌, ◌≤◌, ◌<◌}
use native.Mathlib.Omega.{arith}
use Rattle.rules.specs.Excess.{closings, closing_place}
use Rattle.rules.specs.Bytes.{low_bits}
use Rattle.rules.proofs.Excess.{closings-append, counts-length}
use Rattle.rules.proofs.Bytes.{low_bits-length}
use Rattle.rules.proofs.Parts.{closing_first, closing_second}
use Rattle.words.proofs.Low.{low_bits_add}
use Rattle.blocks.specs.declared.byte.Narrow.{Narrow}
use Rattle.blocks.specs.Select.{Leads}

pub closings_few : (k x : ℕ) → closings (low_bits k x) ≤ k
closings_few k x = omega (arith, counts-length (low_bits k x), low_bits-length k x)

pub closings_add : (j k x : ℕ) → closings (low_bits (j + k) x) ≡ closings (low_bits j x) + closings (low_bits k (x / 2 ^ j))
closings_add j k x = rw (low_bits_add j k x) (closings-append (low_bits j x) (low_bits k (x / 2 ^ j)))

-- the d bits before are passed, and the v bits from there on have the closing
pub leads : (d v w : ℕ) (n : Narrow) → d + v ≤ w → closings (low_bits d n.bits) ≤ n.k → n.k < closings (low_bits (d + v) n.bits)
    → Leads w n v (record { bits = n.bits / 2 ^ d; k = n.k - closings (low_bits d n.bits); at = n.at + d })
leads d v w n long passed ahead =
    let x = n.bits in
    let k = n.k in
    let y = x / 2 ^ d in
    let u = low_bits d x in
    let z = w - (d + v) in
    let e : d + (v + z) ≡ w = omega arith in
    let among : k - closings u < closings (low_bits v y) = omega (arith, closings_add d v x) in
    let whole : closing_place (low_bits (d + (v + z)) x) k ≡ d + closing_place (low_bits v y) (k - closings u) =
    rw (low_bits_add d (v + z) x, closing_second u (low_bits (v + z) y) k passed, low_bits-length d x, low_bits_add v z y, closing_first (low_bits v y) (low_bits z (y / 2 ^ v)) (k - closings u) among) in
    let there : closing_place (low_bits w x) k ≡ d + closing_place (low_bits v y) (k - closings u) = rw e at whole in
    record { among = among; near = omega arith; there = omega arith }

-- the lowest v bits have it themselves
pub leads_low : (v w : ℕ) (n : Narrow) → v ≤ w → n.k < closings (low_bits v n.bits) → Leads w n v n
leads_low v w n long ahead =
    let x = n.bits in
    let e : v + (w - v) ≡ w = omega arith in
    let whole : closing_place (low_bits (v + (w - v)) x) n.k ≡ closing_place (low_bits v x) n.k =
    rw (low_bits_add v (w - v) x) (closing_first (low_bits v x) (low_bits (w - v) (x / 2 ^ v)) n.k ahead) in
    record { among = ahead; near = omega arith; there = ap (λ (p : ℕ). n.at + p) (sym (rw e at whole)) }
