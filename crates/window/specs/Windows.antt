-- What a window comes to for the pass that is handed one, and that no input allows two results.
use Rattle.std.specs.Prelude.{◌≡◌, ℕ, ◌≤◌, ◌<◌, List, []}
use Rattle.rules.specs.Excess.{entry_between}
use Rattle.rules.specs.Bytes.{parens}
use Rattle.rules.specs.Refusal.{answer, refusal}
use Rattle.rules.specs.Order.{ask_says}
use Rattle.rules.specs.Window.{window_says, through_says}
use Rattle.answers.specs.Said.{Answer, said}
use Rattle.window.specs.declared.Window.{Window}
use Rattle.window.specs.Made.{Made, in_window}

-- through a window that stands, on a record r of n entries from first f to last l: an ask that lies inside is the plain ask, and where its ends
-- are in order it is answered; one that does not lie inside is 8
pub record Standing (r : List ℕ) (f l n : ℕ) : Type 0 where
  pub inside : (i j : ℕ) → f ≤ i → j ≤ l → through_says r f l i j ≡ ask_says r i j
  pub answered : (i j : ℕ) → f ≤ i → i ≤ j → j ≤ l → through_says r f l i j ≡ answer (entry_between (parens n r) i j)
  pub below : (i j : ℕ) → i < f → through_says r f l i j ≡ refusal 8
  pub above : (i j : ℕ) → l < j → through_says r f l i j ≡ refusal 8

pub record Windows : Type 0 where
  -- a window that is made keeps the record's bytes beside the first and last entry; refused, it has no bytes and 0 for both
  pub kept : (r : List ℕ) (f l n : ℕ) (w : Window) → Made r f l w → window_says r f l ≡ answer n → (w.bytes.now ≡ r) × (w.first ≡ f) × (w.last ≡ l)
  pub kept_none : (r : List ℕ) (f l k : ℕ) (w : Window) → Made r f l w → window_says r f l ≡ refusal k → (w.bytes.now ≡ []) × (w.first ≡ 0) × (w.last ≡ 0)
  -- to ask in it is to ask through it
  pub made : (r : List ℕ) (f l i j : ℕ) (w : Window) → Made r f l w → in_window w i j ≡ through_says r f l i j
  pub standing : (r : List ℕ) (f l n : ℕ) → window_says r f l ≡ answer n → Standing r f l n
  pub refused : (r : List ℕ) (f l k i j : ℕ) → window_says r f l ≡ refusal k → through_says r f l i j ≡ refusal 5
  -- no window hands out a place outside its first and last entry, one put together by hand no more than one that was made
  pub within : (w : Window) (i j p : ℕ) → in_window w i j ≡ answer p → (w.first ≤ i) × (i ≤ p) × (p ≤ j) × (j ≤ w.last)

-- Document 01, "How tight each statement is": two results allowed for one input are equal. Of two windows that is said of what they keep.
pub record Once : Type 0 where
  pub refusal_of : (r : List ℕ) (f l : ℕ) (a b : Answer) → said a ≡ window_says r f l → said b ≡ window_says r f l → a ≡ b
  pub make : (r : List ℕ) (f l : ℕ) (w x : Window) → Made r f l w → Made r f l x
      → (w.bytes.now ≡ x.bytes.now) × (w.first ≡ x.first) × (w.last ≡ x.last)
  pub ask_in : (w : Window) (i j : ℕ) (a b : Answer) → said a ≡ in_window w i j → said b ≡ in_window w i j → a ≡ b
  pub ask_through : (r : List ℕ) (f l i j : ℕ) (a b : Answer) → said a ≡ through_says r f l i j → said b ≡ through_says r f l i j → a ≡ b
