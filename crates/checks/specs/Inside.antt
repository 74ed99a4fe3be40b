-- The record check's steps behind the frame, as `check_says` of the rules has them, and what the steps may rely on.
use Rattle.std.specs.Prelude.{◌≡◌, ℕ, ◌≤◌, cond, List, ltb, length}
use Rattle.rules.specs.Excess.{openings, balanced}
use Rattle.rules.specs.Bytes.{most, record_length, parens, unused}
use Rattle.rules.specs.Refusal.{Outcome, answer, refusal}

unfoldable pub inside_says : List ℕ → ℕ → Outcome
inside_says r n =
    cond (ltb (record_length n) (length r)) (refusal 11)
    (cond (ltb 0 (openings (unused n r))) (refusal 6)
    (cond (balanced (parens n r)) (answer n) (refusal 7)))

-- a record of n entries and no byte more
pub record Whole (r : List ℕ) (n : ℕ) : Type 0 where
  pub few : n ≤ most
  pub exact : length r ≡ record_length n
