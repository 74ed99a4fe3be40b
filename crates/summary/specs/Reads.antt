-- What is read of a block before it is noted.
use Rattle.std.specs.Prelude.{◌≡◌, ℕ, ◌+◌, List}
use Rattle.rules.specs.Shape.{Paren}
use Rattle.rules.specs.Summary.{block_end, leaf}
use Rattle.summary.specs.declared.block.Block.{Block}
use Rattle.summary.specs.Laid.{closed}

-- b is block k
pub record Reads (s : List Paren) (k : ℕ) (b : Block) : Type 0 where
  pub from : b.from ≡ closed s k
  pub upto : b.upto ≡ closed s (k + 1)
  pub end : b.end ≡ block_end s k
  pub least : b.least ≡ leaf s k
