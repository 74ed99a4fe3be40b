-- Document 01, "How tight each statement is": two results allowed for one input are equal, for each entry point. What an entry point's contract
-- allows stands to the left, of one result and of another; what follows of the two to the right.
use Rattle.std.specs.Prelude.{◌≡◌, ◌⊎◌, ℕ, List, length, take}
use Rattle.rules.specs.Bytes.{parens}
use Rattle.rules.specs.Refusal.{answer, refusal}
use Rattle.rules.specs.Order.{frame_says, check_says, ask_says}
use Rattle.rules.specs.Summary.{slots, summary_of, quick_checks, IsStrange, QuickSays}
use Rattle.answers.specs.Said.{Answer, said}
use Rattle.build.specs.Builds.{Builds}
use Rattle.stand_in.specs.StandsIn.{StandsIn}
use Rattle.summary.specs.Fills.{Fills}

-- The quick ask has one result where its checks refuse, where the summary is the record's own, and where a slot names a block the record
-- hasn't got. What is left is the exception in docs/EXCEPTIONS.md.
pub data Settled (r t : List ℕ) (i j : ℕ) : Type 0 where
  refused : (k : ℕ) → quick_checks r (length t) i j ≡ refusal k → Settled r t i j
  own : (n : ℕ) → check_says r ≡ answer n → take slots t ≡ summary_of (parens n r) → Settled r t i j
  named : (n : ℕ) → quick_checks r (length t) i j ≡ answer n → IsStrange t n i ⊎ IsStrange t n j → Settled r t i j

pub record Once : Type 0 where
  pub frame : (r : List ℕ) (a b : Answer) → said a ≡ frame_says r → said b ≡ frame_says r → a ≡ b
  pub check : (r : List ℕ) (a b : Answer) → said a ≡ check_says r → said b ≡ check_says r → a ≡ b
  pub build : (c w o : List ℕ) (a b : Answer) (w₁ o₁ w₂ o₂ : List ℕ) → Builds c w o a w₁ o₁ → Builds c w o b w₂ o₂
      → (a ≡ b) × (w₁ ≡ w₂) × (o₁ ≡ o₂)
  pub ask : (r : List ℕ) (i j : ℕ) (a b : Answer) → said a ≡ ask_says r i j → said b ≡ ask_says r i j → a ≡ b
  pub standing_in : (r col : List ℕ) (a b : Answer) (col₁ col₂ : List ℕ) → StandsIn r col a col₁ → StandsIn r col b col₂
      → (a ≡ b) × (col₁ ≡ col₂)
  pub fill : (r t : List ℕ) (a b : Answer) (t₁ t₂ : List ℕ) → Fills r t a t₁ → Fills r t b t₂ → (a ≡ b) × (t₁ ≡ t₂)
  pub quick_ask : (r t : List ℕ) (i j : ℕ) → Settled r t i j
      → (a b : Answer) → QuickSays r t i j (said a) → QuickSays r t i j (said b) → a ≡ b
