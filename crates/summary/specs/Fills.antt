-- Document 01, "Order of checks", fill: what is said, and what the summary holds afterwards, for every input.
use Rattle.std.specs.Prelude.{◌≡◌, ℕ, List, length}
use Rattle.rules.specs.Summary.{fill_says, summary_after}
use Rattle.answers.specs.Said.{Answer, said}

-- record and summary; the answer; the summary at the end
pub record Fills (r t : List ℕ) (a : Answer) (t' : List ℕ) : Type 0 where
  pub says : said a ≡ fill_says r (length t)
  pub summary : t' ≡ summary_after r t
