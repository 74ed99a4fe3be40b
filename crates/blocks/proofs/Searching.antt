-- The search for a block: what is known of the two ends.
-- Assumes nothing.
use Prim.Native.Nat.{ℕ, ◌+◌, ◌-◌, ◌*◌, ◌≤◌, ◌<◌}
use mathlib.Core.List.{List}
use lib.ListN.{get_or}

pub record Searching (t : List ℕ) (i from to lo hi : ℕ) : Type 0 where
  pub low : from ≤ lo
  pub order : lo ≤ hi
  pub high : hi ≤ to
  pub passed : from < lo → 256 * lo ≤ 2 * i + get_or t (lo - 1) 0
  pub ahead : hi < to → 2 * i + get_or t hi 0 < 256 * (hi + 1)
