-- The closings of eight bytes counted at once: by twos, by fours, by eights, as a test over all bytes says of each of them.
-- Assumes nothing.
use mathlib.Core.Path.{◌≡◌, refl, ap, ◌∙◌}
use Prim.Native.Nat.{ℕ, ◌+◌, ◌-◌, ◌*◌, ◌/◌, ◌^◌, ◌≤◌, ◌<◌}
use native.Mathlib.Omega.{arith}
use mathlib.Core.Bool.{Bool}
use lib.Bits.{bit_and, and_le_l}
use lib.Dec.{T, ltb, eqb, ltb→lt, eqb→eq, lit<}
use Rattle.rules.specs.Excess.{closings}
use Rattle.rules.specs.Bytes.{low_bits, paren}
use Rattle.rules.proofs.Every.{all_below, below_at}
use Rattle.words.proofs.Low.{low_bits_low}
use Rattle.blocks.specs.Select.{joined, count_at}
use Rattle.blocks.proofs.Lanes.{Few, joined_same, joined_add, joined_sub, joined_and, joined_shr, byte_at, joined_bytes}

-- ---- what is done to each byte

flip : ℕ → ℕ
flip b = 255 - b

odd : ℕ → ℕ
odd b = bit_and (flip b) 0xaa / 2

twos : ℕ → ℕ
twos b = flip b - odd b

fours : ℕ → ℕ
fours b = bit_and (twos b) 0x33 + bit_and (twos b) 0xcc / 4

eights : ℕ → ℕ
eights b = bit_and (fours b) 0x0f + bit_and (fours b) 0xf0 / 16

-- what f makes of a byte is a byte
record Small (f : ℕ → ℕ) : Type 0 where
  pub small : (b : ℕ) → b < 256 → f b < 256

-- the bits of mask m in it lose nothing by a shift
record Kept (f : ℕ → ℕ) (m p : ℕ) : Type 0 where
  pub kept : (b : ℕ) → b < 256 → p * (bit_and (f b) m / p) ≡ bit_and (f b) m

-- each by a test over all bytes
byte : (ℕ → ℕ) → ℕ → Bool
byte f b = ltb (f b) 256

is_small : (f : ℕ → ℕ) → T (all_below 256 (byte f)) → Small f
unfolding byte
is_small f t = record { small = λ b h. ltb→lt (f b) 256 (below_at 256 (byte f) t b h) }

even : (ℕ → ℕ) → ℕ → ℕ → ℕ → Bool
even f m p b = eqb (p * (bit_and (f b) m / p)) (bit_and (f b) m)

is_kept : (f : ℕ → ℕ) (m p : ℕ) → T (all_below 256 (even f m p)) → Kept f m p
unfolding even
is_kept f m p t =
    record { kept = λ b h. eqb→eq (p * (bit_and (f b) m / p)) (bit_and (f b) m) (below_at 256 (even f m p) t b h) }

flip-small : Small flip
unfolding flip byte
flip-small = is_small flip tt

flip-kept : Kept flip 0xaa 2
unfolding flip even
flip-kept = is_kept flip 0xaa 2 tt

twos_small : Small twos
unfolding flip odd twos byte
twos_small = is_small twos tt

twos-kept : Kept twos 0xcc 4
unfolding flip odd twos even
twos-kept = is_kept twos 0xcc 4 tt

fours-small : Small fours
unfolding flip odd twos fours byte
fours-small = is_small fours tt

fours-kept : Kept fours 0xf0 16
unfolding flip odd twos fours even
fours-kept = is_kept fours 0xf0 16 tt

eights_right : (b : ℕ) → b < 256 → eights b ≡ closings (low_bits 8 b)
unfolding flip odd twos fours eights closings low_bits paren
eights_right b h =
    eqb→eq (eights b) (closings (low_bits 8 b)) (below_at 256 (λ b. eqb (eights b) (closings (low_bits 8 b))) tt b h)

-- ---- as the code works it out

abbrev pub flipped : ℕ → ℕ
flipped x = 0xffff_ffff_ffff_ffff - x

abbrev pub by_twos : ℕ → ℕ
by_twos x = flipped x - bit_and (flipped x) 0xaaaa_aaaa_aaaa_aaaa / 2

abbrev pub by_fours : ℕ → ℕ
by_fours x = bit_and (by_twos x) 0x3333_3333_3333_3333 + bit_and (by_twos x) 0xcccc_cccc_cccc_cccc / 4

abbrev pub by_eights : ℕ → ℕ
by_eights x = bit_and (by_fours x) 0x0f0f_0f0f_0f0f_0f0f + bit_and (by_fours x) 0xf0f0_f0f0_f0f0_f0f0 / 16

-- the bytes of x, each put through f
abbrev each : (ℕ → ℕ) → ℕ → ℕ
each f x = joined 8 (λ j. f (byte_at x j))

lanes : (f : ℕ → ℕ) → Small f → (x : ℕ) → Few 8 255 (λ j. f (byte_at x j))
lanes f s x = record { few = λ j h. let l = s.small (byte_at x j) (omega arith) in omega arith }

-- a word y of such bytes under the mask w, which is m in each byte: as it is, and shifted down
module _ {f : ℕ → ℕ} (s : Small f) (m : ℕ) (l : m < 256) (x w y : ℕ) (mask : joined 8 (λ j. m) ≡ w) (of : y ≡ each f x) where
  masked : bit_and y w ≡ each (λ b. bit_and (f b) m) x
  masked = rw (of, ← mask) (joined_and 8 (λ j. f (byte_at x j)) m (lanes f s x) l)

  masked-down : (p : ℕ) → 0 < p → Kept f m p → bit_and y w / p ≡ each (λ b. bit_and (f b) m / p) x
  masked-down p pos k =
      rw masked (joined_shr 8 p (λ j. bit_and (f (byte_at x j)) m) pos (λ j h. k.kept (byte_at x j) (omega arith)))

-- the two halves of each pair of fields, added
halves : {f : ℕ → ℕ} {m p : ℕ} → Small f → Kept f m p → (low : ℕ) → low < 256 → m < 256 → 0 < p
    → (x u w y : ℕ) → joined 8 (λ j. low) ≡ u → joined 8 (λ j. m) ≡ w → y ≡ each f x
    → bit_and y u + bit_and y w / p ≡ each (λ b. bit_and (f b) low + bit_and (f b) m / p) x
halves {f} {m} {p} s k low l h pos x u w y mask mask' of =
    rw (masked s low l x u y mask of, masked-down s m h x w y mask' of p pos k)
    (joined_add 8 (λ j. bit_and (f (byte_at x j)) low) (λ j. bit_and (f (byte_at x j)) m / p))

all_set : (x : ℕ) → each flip x + each (λ b. b) x ≡ 0xffff_ffff_ffff_ffff
unfolding flip joined
all_set x = joined_sub 8 (λ j. 255) (byte_at x) (λ j h. omega arith)

odd_low : (x j : ℕ) → j < 8 → odd (byte_at x j) ≤ flip (byte_at x j)
unfolding odd
odd_low x j h = omega (arith, and_le_l (flip (byte_at x j)) 0xaa)

module _ (x : ℕ) (fits : x < 2 ^ 64) where
  flipped_is : flipped x ≡ each flip x
  flipped_is = omega (arith, all_set x, joined_bytes 8 x fits)

  odd_is : bit_and (flipped x) 0xaaaa_aaaa_aaaa_aaaa / 2 ≡ each odd x
  unfolding odd joined
  odd_is = masked-down flip-small 0xaa (lit< tt) x 0xaaaa_aaaa_aaaa_aaaa (flipped x) refl flipped_is 2 (lit< tt) flip-kept

  twos_is : by_twos x ≡ each twos x
  unfolding twos
  twos_is =
      omega (arith, flipped_is, odd_is, joined_sub 8 (λ j. flip (byte_at x j)) (λ j. odd (byte_at x j)) (odd_low x))

  fours_is : by_fours x ≡ each fours x
  unfolding fours joined
  fours_is =
      halves twos_small twos-kept 0x33 (lit< tt) (lit< tt) (lit< tt)
      x 0x3333_3333_3333_3333 0xcccc_cccc_cccc_cccc (by_twos x) refl refl twos_is

  eights_is : by_eights x ≡ each eights x
  unfolding eights joined
  eights_is =
      halves fours-small fours-kept 0x0f (lit< tt) (lit< tt) (lit< tt)
      x 0x0f0f_0f0f_0f0f_0f0f 0xf0f0_f0f0_f0f0_f0f0 (by_fours x) refl refl fours_is

  pub counted : by_eights x ≡ joined 8 (count_at x)
  counted =
      eights_is
      ∙ joined_same 8 (λ j. eights (byte_at x j)) (count_at x)
      (λ j h. eights_right (byte_at x j) (omega arith) ∙ ap closings (low_bits_low 8 (x / 2 ^ (8 * j))))
