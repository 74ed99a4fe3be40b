-- Where a closing stands among some bits, and how a word of them is narrowed down to it.
use Rattle.std.specs.Prelude.{◌≡◌, ℕ, zero, suc, ◌+◌, ◌*◌, ◌/◌, ◌^◌, ◌≤◌, ◌<◌, cond, List, ltb, length, Option, MatchOption}
use Rattle.rules.specs.Shape.{Paren}
use Rattle.rules.specs.Excess.{closings, closing_place}
use Rattle.rules.specs.Bytes.{low_bits}
use Rattle.blocks.specs.declared.byte.Narrow.{Narrow}

-- the place of closing number k, or the end where there are not so many
unfoldable pub select_of : List Paren → ℕ → ℕ
select_of s k = cond (ltb k (closings s)) (closing_place s k) (length s)

-- r is that place, none where there are not so many
abbrev pub Selects : List Paren → ℕ → Option ℕ → Type 0
Selects s k r = MatchOption r (closings s ≤ k) (λ p. (k < closings s) × (p ≡ select_of s k))

-- the number whose n bytes are a 0, a 1, .. , a (n - 1), lowest first
unfoldable pub joined : ℕ → (ℕ → ℕ) → ℕ
joined zero a = 0
joined (suc n) a = a 0 + 256 * joined n (λ j. a (suc j))

-- the closings of byte j of x, and those up to and with that byte
abbrev pub count_at : ℕ → ℕ → ℕ
count_at x j = closings (low_bits 8 (x / 2 ^ (8 * j)))

abbrev pub sum_at : ℕ → ℕ → ℕ
sum_at x j = closings (low_bits (8 * suc j) x)

-- what is asked of the w lowest bits in n is asked of the v lowest bits in r
pub record Leads (w : ℕ) (n : Narrow) (v : ℕ) (r : Narrow) : Type 0 where
  pub among : r.k < closings (low_bits v r.bits)
  pub near : r.at + v ≤ n.at + w
  pub there : r.at + closing_place (low_bits v r.bits) r.k ≡ n.at + closing_place (low_bits w n.bits) n.k
