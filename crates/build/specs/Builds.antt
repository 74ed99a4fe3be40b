-- Document 01, "Order of checks", build: what is said, the output and the work afterwards, for every input.
use Rattle.std.specs.Prelude.{◌≡◌, ℕ, List, length}
use Rattle.rules.specs.Order.{build_says, output_after, work_after}
use Rattle.answers.specs.Said.{Answer, said}

-- column, work and output; the answer; work and output at the end
pub record Builds (c w o : List ℕ) (r : Answer) (w' o' : List ℕ) : Type 0 where
  pub says : said r ≡ build_says c (length w) (length o)
  pub output : o' ≡ output_after c w o
  pub work : w' ≡ work_after c w o
