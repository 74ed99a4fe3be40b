-- The contracts of the functions that write: the number that they answer, and what each lent buffer holds at the end, for every input. And that
-- of the quick ask, whose rule allows several outcomes where the summary is foreign (docs/EXCEPTIONS.md).
use Rattle.std.specs.Prelude.{◌≡◌, ℕ, List, length}
use Rattle.rules.specs.Refusal.{Outcome}
use Rattle.rules.specs.Order.{build_says, output_after, work_after, stand_in_says, column_after}
use Rattle.rules.specs.Summary.{fill_says, summary_after, QuickSays}
use Rattle.rules.specs.Drawer.{append_says, buffer_after, work_after_append}
use Rattle.stayharrow.specs.Coded.{coded, accepted}

-- column, work and output; the number; work and output at the end
pub record Built (c w o : List ℕ) (x : ℕ) (w' o' : List ℕ) : Type 0 where
  pub says : x ≡ coded (build_says c (length w) (length o))
  pub output : o' ≡ output_after c w o
  pub work : w' ≡ work_after c w o

-- record and summary; the number; the summary at the end
pub record Filled (r t : List ℕ) (x : ℕ) (t' : List ℕ) : Type 0 where
  pub says : x ≡ coded (accepted (fill_says r (length t)))
  pub summary : t' ≡ summary_after r t

-- record, summary and question; the number of an outcome that is allowed
pub record QuickAsked (r t : List ℕ) (i j : ℕ) (x : ℕ) : Type 0 where
  pub outcome : Outcome
  pub allowed : QuickSays r t i j outcome
  pub says : x ≡ coded outcome

-- record and column; the number; the column at the end
pub record StoodIn (r col : List ℕ) (x : ℕ) (col' : List ℕ) : Type 0 where
  pub says : x ≡ coded (stand_in_says r (length col))
  pub column : col' ≡ column_after r col

-- buffer, used length, column and work; the number; buffer and work at the end
pub record Appended (b : List ℕ) (u : ℕ) (c w : List ℕ) (x : ℕ) (b' w' : List ℕ) : Type 0 where
  pub says : x ≡ coded (append_says b u c (length w))
  pub buffer : b' ≡ buffer_after b u c w
  pub work : w' ≡ work_after_append b u c w
