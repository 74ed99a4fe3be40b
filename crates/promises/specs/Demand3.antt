-- Demand 3. Take two columns of equal length that the builder accepts. Their records are equal byte for byte exactly when, for every first
-- place not past the last, the leftmost smallest entry stands at the same place in both. The check accepts bytes exactly when they are the
-- record of some column that the builder accepts. And the counts' privacy, for build.
use Rattle.std.specs.Prelude.{◌≡◌, ◌↔◌, ℕ, ◌^◌, ◌≤◌, ◌<◌, List, length, take, get_or}
use Rattle.rules.specs.Column.{Alike}
use Rattle.rules.specs.Bytes.{Bytes, most, column_record}
use Rattle.rules.specs.Refusal.{answer}
use Rattle.rules.specs.Order.{check_says}
use Rattle.answers.specs.Said.{Answer}
use Rattle.build.specs.Builds.{Builds}

-- a column that the builder accepts, with output and work large enough: at most 32,768 counts of 32 bits
pub record Column (c : List ℕ) : Type 0 where
  pub few : length c ≤ most
  pub counts : (k : ℕ) → get_or c k 0 < 2 ^ 32

pub record Demand3 : Type 0 where
  pub same_records : (c d : List ℕ) → Column c → Column d → length c ≡ length d → (column_record c ≡ column_record d) ↔ Alike (length c) c d
  pub accepts : (r : List ℕ) → Bytes r → ((n : ℕ) × (check_says r ≡ answer n)) ↔ ((c : List ℕ) × Column c × (r ≡ column_record c))

-- two runs of build on columns of equal length with the same leftmost smallest places, and otherwise equal input
pub record BuildPrivate : Type 0 where
  pub private : (c d w o : List ℕ) → length c ≡ length d → Alike (length c) c d
      → (a b : Answer) (w₁ o₁ w₂ o₂ : List ℕ) → Builds c w o a w₁ o₁ → Builds d w o b w₂ o₂
      → (a ≡ b) × (o₁ ≡ o₂) × (take (length c) w₁ ≡ take (length c) w₂)
