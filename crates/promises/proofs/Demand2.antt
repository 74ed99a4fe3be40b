-- Demand 2, proved. Assumes nothing.
use mathlib.Core.Path.{◌≡◌, sym, ap, ◌∙◌}
use Prim.Native.Nat.{ℕ, ◌≤◌, ◌<◌}
use native.Mathlib.Omega.{arith}
use mathlib.Core.List.{List, ◌++◌}
use borrow.Author.Tests.{lt-ltb, le-ltb}
use lib.ListN.{length, take, drop}
use lib.Seq.{take_at}
use Rattle.rules.specs.Column.{least}
use Rattle.rules.specs.Shape.{shape}
use Rattle.rules.specs.Excess.{closings}
use Rattle.rules.specs.StandIn.{stand_in}
use Rattle.rules.specs.Bytes.{Bytes, most, record_length, record_of, column_record, entries, parens}
use Rattle.rules.specs.Refusal.{answer}
use Rattle.rules.specs.Order.{build_says, output_after, check_says, ask_says, stand_in_says, column_after}
use Rattle.rules.specs.Summary.{slots, summary_of, fill_says, summary_after}
use Rattle.rules.proofs.Excess.{counts-length}
use Rattle.rules.proofs.StandIn.{stand_in_length}
use Rattle.rules.proofs.Checked.{says_checked}
use Rattle.rules.proofs.Summary.{summary-length}
use Rattle.rules.proofs.Record.{Accepted, record_length_lem, record_parens, record_accepted, accepted_record}
use Rattle.theory.proofs.Written.{shape-length, shape-balanced}
use Rattle.theory.proofs.StandInTree.{stand_in_again}
use Rattle.theory.proofs.Agree.{asked-least}
use Rattle.promises.specs.Demand2.{Demand2}

accepted : (c w o : List ℕ) → length c ≤ most → length c ≤ length w → record_length (length c) ≤ length o
    → build_says c (length w) (length o) ≡ answer (record_length (length c))
unfolding build_says
accepted c w o few work room =
    rw (le-ltb most (length c) few, le-ltb (length o) (record_length (length c)) room, le-ltb (length w) (length c) work)

written : (c w o : List ℕ) → length c ≤ most → length c ≤ length w → record_length (length c) ≤ length o
    → take (record_length (length c)) (output_after c w o) ≡ column_record c
unfolding output_after column_record
written c w o few work room =
    rw (accepted c w o few work room)
    (take_at (record_of (length c) (shape c)) (drop (record_length (length c)) o) (record_length (length c)) (record_length_lem (length c) (shape c)))

-- a column's record passes the check, and its parentheses are the column's shape
pub column-accepted : (c : List ℕ) → length c ≤ most → check_says (column_record c) ≡ answer (length c)
unfolding column_record
column-accepted c few = record_accepted (length c) (shape c) few (shape-length c) (shape-balanced c)

pub column-parens : (c : List ℕ) → parens (length c) (column_record c) ≡ shape c
unfolding column_record
column-parens c = record_parens (length c) (shape c) (shape-length c)

asked : (c : List ℕ) → length c ≤ most → (i j : ℕ) → i ≤ j → j < length c → ask_says (column_record c) i j ≡ answer (least c i j)
unfolding ask_says
asked c few i j h l =
    rw (column-accepted c few, le-ltb j i h, lt-ltb j (length c) l, column-parens c) (ap answer (asked-least c i j h l))

fills : (r t : List ℕ) (n : ℕ) → check_says r ≡ answer n → slots ≤ length t → fill_says r (length t) ≡ answer n
unfolding fill_says
fills r t n says room = rw (says, le-ltb (length t) slots room)

filled : (r t : List ℕ) (n : ℕ) → check_says r ≡ answer n → slots ≤ length t → take slots (summary_after r t) ≡ summary_of (parens n r)
unfolding summary_after
filled r t n says room =
    let head : entries r ≡ n = (says_checked r n says).framed.says in
    rw (fills r t n says room, head) (take_at (summary_of (parens n r)) (drop slots t) slots (summary-length (parens n r)))

-- a balanced record's closings are its entries
pub closings-entries : (r : List ℕ) (n : ℕ) → Accepted r n → closings (parens n r) ≡ n
closings-entries r n a =
    let c = counts-length (parens n r) in
    let b = a.balance.last in
    let l = a.count in
    omega arith

stands_in : (r col : List ℕ) (n : ℕ) → check_says r ≡ answer n → n ≤ length col → stand_in_says r (length col) ≡ answer n
unfolding stand_in_says
stands_in r col n says room = rw (says, le-ltb (length col) n room)

stood_in : (r col : List ℕ) (n : ℕ) → Bytes r → check_says r ≡ answer n → n ≤ length col → column_record (take n (column_after r col)) ≡ r
unfolding column_after column_record
stood_in r col n bytes says room =
    let a = accepted_record r n bytes says in
    let s = parens n r in
    let len : length (stand_in s) ≡ n = stand_in_length s ∙ closings-entries r n a in
    let col' : take n (stand_in s ++ drop n col) ≡ stand_in s = take_at (stand_in s) (drop n col) n len in
    rw (stands_in r col n says room, a.says, col', len, stand_in_again s a.balance) (sym a.again)

pub demand2 : Demand2
demand2 =
    record {
      built = λ c w o few work room. (accepted c w o few work room, written c w o few work room);
      asked = asked;
      filled = λ r t n says room. (fills r t n says room, filled r t n says room);
      quick_as_plain = λ r t n says own i j o may. may.right n says own;
      asked_quickly = λ c t few own i j h l o may. may.right (length c) (column-accepted c few) own ∙ asked c few i j h l;
      stood_in = λ r col n bytes says room. (stands_in r col n says room, stood_in r col n bytes says room);
    }
