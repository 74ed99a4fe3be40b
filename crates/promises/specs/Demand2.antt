-- Demand 2. A column's record is the balanced-parentheses form of its Cartesian tree, ties to the left. Asked of the record alone, the answer
-- is the place of the leftmost smallest entry between two places, both counted in. With the summary filled from that record the quick ask
-- says the same. From any accepted record a column is written whose record is that one again.
use Rattle.std.specs.Prelude.{◌≡◌, ℕ, ◌≤◌, ◌<◌, List, length, take}
use Rattle.rules.specs.Column.{least}
use Rattle.rules.specs.Bytes.{Bytes, most, record_length, column_record, parens}
use Rattle.rules.specs.Refusal.{Outcome, answer}
use Rattle.rules.specs.Order.{build_says, output_after, check_says, ask_says, stand_in_says, column_after}
use Rattle.rules.specs.Summary.{slots, summary_of, fill_says, summary_after, QuickSays}

pub record Demand2 : Type 0 where
  -- build answers wherever column, work and output are as long as its rule asks, and what it writes is the record
  pub built : (c w o : List ℕ) → length c ≤ most → length c ≤ length w → record_length (length c) ≤ length o
      → (build_says c (length w) (length o) ≡ answer (record_length (length c))) × (take (record_length (length c)) (output_after c w o) ≡ column_record c)
  -- the plain ask on a column's record is the column's own leftmost smallest place
  pub asked : (c : List ℕ) → length c ≤ most → (i j : ℕ) → i ≤ j → j < length c → ask_says (column_record c) i j ≡ answer (least c i j)
  -- for every accepted record fill answers, given room, and what it writes begins with the summary of the record's parentheses
  pub filled : (r t : List ℕ) (n : ℕ) → check_says r ≡ answer n → slots ≤ length t
      → (fill_says r (length t) ≡ answer n) × (take slots (summary_after r t) ≡ summary_of (parens n r))
  -- with such a summary all that the quick ask may say is what the plain ask says
  pub quick_as_plain : (r t : List ℕ) (n : ℕ) → check_says r ≡ answer n → take slots t ≡ summary_of (parens n r)
      → (i j : ℕ) (o : Outcome) → QuickSays r t i j o → o ≡ ask_says r i j
  -- which on a column's record is the column's own leftmost smallest place
  pub asked_quickly : (c t : List ℕ) → length c ≤ most → take slots t ≡ summary_of (parens (length c) (column_record c))
      → (i j : ℕ) → i ≤ j → j < length c → (o : Outcome) → QuickSays (column_record c) t i j o → o ≡ answer (least c i j)
  -- for every accepted record the stand-in answers, given room, and what it writes has that record again
  pub stood_in : (r col : List ℕ) (n : ℕ) → Bytes r → check_says r ≡ answer n → n ≤ length col
      → (stand_in_says r (length col) ≡ answer n) × (column_record (take n (column_after r col)) ≡ r)
