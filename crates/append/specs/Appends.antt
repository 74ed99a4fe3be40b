-- Document 01, "Order of checks", append: what is said, the buffer and the work afterwards, for every input.
use Rattle.std.specs.Prelude.{◌≡◌, ℕ, List, length}
use Rattle.rules.specs.Drawer.{append_says, buffer_after, work_after_append}
use Rattle.answers.specs.Said.{Answer}
use Rattle.answers.specs.Said.{said}

-- buffer, used length, column and work; the answer; buffer and work at the end
pub record Appends (b : List ℕ) (u : ℕ) (c w : List ℕ) (r : Answer) (b' w' : List ℕ) : Type 0 where
  pub says : said r ≡ append_says b u c (length w)
  pub buffer : b' ≡ buffer_after b u c w
  pub work : w' ≡ work_after_append b u c w
