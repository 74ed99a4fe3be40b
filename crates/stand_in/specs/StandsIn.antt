-- Document 01, "Order of checks", stand-in: what is said and the column afterwards, for every input.
use Rattle.std.specs.Prelude.{◌≡◌, List, ℕ, length}
use Rattle.rules.specs.Order.{stand_in_says, column_after}
use Rattle.answers.specs.Said.{Answer, said}

-- record and column; the answer; the column at the end
pub record StandsIn (r col : List ℕ) (a : Answer) (col' : List ℕ) : Type 0 where
  pub says : said a ≡ stand_in_says r (length col)
  pub column : col' ≡ column_after r col
