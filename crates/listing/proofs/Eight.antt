-- The signs of each byte, worked out at once, by a computed test over all of them.
-- Assumes nothing.
use mathlib.Core.Path.{◌≡◌, refl}
use Prim.Native.Nat.{ℕ, ◌+◌, ◌-◌, ◌*◌, ◌/◌, ◌<◌}
use mathlib.Core.Bool.{Bool, true, false}
use mathlib.Core.List.{map}
use lib.Bits.{bit_and}
use lib.Dec.{T}
use Rattle.std.specs.Int.{w64, to_le_bytes}
use Rattle.std.specs.Cmp.Lexicographic.{pointwise, same_text}
use Rattle.std.proofs.Common.{nat_eq}
use Rattle.rules.specs.Bytes.{low_bits, paren}
use Rattle.rules.specs.Listing.{sign}
use Rattle.rules.proofs.Every.{below_at}

-- as the code works them out, all eight in one number: of the masks there, 41 eight times, the bits' own, 127 eight times, 1 eight times
abbrev pub worked : ℕ → ℕ
worked b = 2965947086361143593 - bit_and ((bit_and (b * 72340172838076673) 9241421688590303745 + 9187201950435737471) / 128) 72340172838076673

right : ℕ → Bool
right b = pointwise nat_eq (to_le_bytes w64 (worked b)) (map sign (low_bits 8 b))

tested : (b : ℕ) → b < 256 → T (right b)
unfolding right low_bits paren sign
tested b h = below_at 256 right tt b h

told : (t : Bool) → T t → true ≡ t
told true h = refl
told false h = absurd h

pub worked-signs : (b : ℕ) → b < 256 → to_le_bytes w64 (worked b) ≡ map sign (low_bits 8 b)
unfolding right
worked-signs b h = same_text (to_le_bytes w64 (worked b)) (map sign (low_bits 8 b)) (told (right b) (tested b h))
