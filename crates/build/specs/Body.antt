-- Between `build` and the pass over the column: what the pass is lent, and what it does.
use Rattle.std.specs.Prelude.{◌≡◌, ℕ, ◌≤◌, List, length}
use Rattle.rules.specs.Shape.{shape}
use Rattle.rules.specs.Bytes.{most, bytes_for, bytes_of}

-- the output's bytes for the body, and a work number for each entry
pub record Taken (c w o : List ℕ) : Type 0 where
  pub few : length c ≤ most
  pub output : length o ≡ bytes_for (length c)
  pub work : length w ≡ length c

-- the body stands in those bytes
pub record Bodied (c o' : List ℕ) : Type 0 where
  pub body : o' ≡ bytes_of (bytes_for (length c)) (shape c)
