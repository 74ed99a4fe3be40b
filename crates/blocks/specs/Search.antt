-- The summary's numbers as the way to a closing: what is said for any numbers whatever, and what is right where they are the summary of
-- the parentheses s.
use Rattle.std.specs.Prelude.{◌≡◌, ◌⊎◌, ℕ, ◌+◌, ◌-◌, ◌*◌, ◌/◌, ◌≤◌, ◌<◌, Bool, true, false, List, length, take, get_or, Option, Some, None, IsSomeAnd}
use Rattle.rules.specs.Shape.{Paren}
use Rattle.rules.specs.Excess.{closing_place, excess, Balanced}
use Rattle.rules.specs.Bytes.{most}
use Rattle.rules.specs.Summary.{slots, blocks_for, summary_of}

-- t begins with the summary of s, the balanced parentheses of n entries
pub record Own (t : List ℕ) (s : List Paren) (n : ℕ) : Type 0 where
  pub balance : Balanced s
  pub long : length s ≡ 2 * n
  pub few : n ≤ most
  pub filled : take slots t ≡ summary_of s

-- r tells whether no more than i closings stand up to the end of block b
pub record Passed (t : List ℕ) (i b : ℕ) (r : Bool) : Type 0 where
  pub behind : r ≡ true → 256 * (b + 1) ≤ 2 * i + get_or t b 0
  pub ahead : r ≡ false → 2 * i + get_or t b 0 < 256 * (b + 1)

-- a search from one block up to another stops at block r: up to the end of the block before it there are no more than i closings, up to
-- its own end there are more
pub record Stops (t : List ℕ) (i from to r : ℕ) : Type 0 where
  pub low : from ≤ r
  pub high : r ≤ to
  pub passed : from < r → 256 * r ≤ 2 * i + get_or t (r - 1) 0
  pub ahead : r < to → 2 * i + get_or t r 0 < 256 * (r + 1)

-- a block from first on: the one that slot 769 + q names, or the last there is
pub record Last (t : List ℕ) (blocks first q r : ℕ) : Type 0 where
  pub low : first ≤ r
  pub within : r < blocks
  pub named : ((q < 127) × (r ≡ get_or t (769 + q) 0)) ⊎ (r ≡ blocks - 1)

-- the block in which closing number i stands; none where the summary names a block that is not there
pub record StandsIn (t : List ℕ) (blocks i : ℕ) (r : Option ℕ) : Type 0 where
  pub strange : blocks ≤ get_or t (768 + i / 256) 0 → r ≡ None
  pub within : get_or t (768 + i / 256) 0 < blocks → IsSomeAnd r (λ b. b < blocks)
  pub right : (s : List Paren) (n : ℕ) → Own t s n → i < n → blocks ≡ blocks_for n → r ≡ Some (closing_place s i / 256)

-- the excess before block k
pub record Before (t : List ℕ) (k r : ℕ) : Type 0 where
  pub bound : r ≤ 65535
  pub first : k ≡ 0 → r ≡ 0
  pub later : 0 < k → r ≡ get_or t (k - 1) 0
  pub right : (s : List Paren) (n : ℕ) → Own t s n → 0 < k → k < blocks_for n → r ≡ excess 0 s (256 * k - 1)
