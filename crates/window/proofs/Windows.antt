-- What a window comes to, proved. Assumes nothing.
use mathlib.Core.Path.{◌≡◌, refl, sym, ap, ◌∙◌}
use Prim.Native.Nat.{ℕ, ◌≤◌, ◌<◌}
use native.Mathlib.Omega.{arith}
use mathlib.Core.Bool.{Bool, true, false, cond}
use mathlib.Core.List.{List}
use borrow.Author.Tests.{lt-ltb, le-ltb, ltb-true, ltb-false}
use lib.Dec.{ltb}
use Rattle.rules.specs.Column.{IsLeast, least}
use Rattle.rules.specs.Excess.{closings, entry_between}
use Rattle.rules.specs.StandIn.{stand_in}
use Rattle.rules.specs.Bytes.{parens}
use Rattle.rules.specs.Refusal.{Outcome, answer, refusal, unless_refused}
use Rattle.rules.specs.Order.{frame_says, check_says, ask_says}
use Rattle.rules.specs.Window.{window_says, window_ask_says, through_says}
use Rattle.rules.proofs.Excess.{counts-length}
use Rattle.rules.proofs.Least.{least_is}
use Rattle.rules.proofs.Between.{between_stand_in}
use Rattle.rules.proofs.Checked.{not_refused, passed, went_on, says_checked, parens-length}
use Rattle.rules.proofs.Window.{stands_keeps, refused_keeps, in_refused, in_inside}
use Rattle.answers.proofs.Said.{one}
use Rattle.window.specs.declared.Window.{Window}
use Rattle.window.specs.Made.{Made, in_window}
use Rattle.window.specs.Windows.{Standing, Windows, Once}

-- ---- the plain ask

-- entry numbers are what the closings are counted by
entry_closings : (r : List ℕ) (n : ℕ) → check_says r ≡ answer n → closings (parens n r) ≡ n
entry_closings r n e =
    let c = says_checked r n e in
    omega (arith, c.balance.last, counts-length (parens n r), parens-length r n c.framed.long)

-- what it says lies between what it was asked
pub asked-within : (r : List ℕ) (i j p : ℕ) → ask_says r i j ≡ answer p → (i ≤ p) × (p ≤ j)
unfolding ask_says
asked-within r i j p e =
    let (n, says, on) = went_on (check_says r) e in
    let a = not_refused (ltb j i) 8 on in
    let b = passed (ltb j n) 8 a.1 in
    let order : i ≤ j = ltb-false j i a.0 in
    let among : j < closings (parens n r) = omega (arith, entry_closings r n says, ltb-true j n b.0) in
    let l : IsLeast (stand_in (parens n r)) i j (least (stand_in (parens n r)) i j) = least_is (stand_in (parens n r)) i j order in
    let same : p ≡ least (stand_in (parens n r)) i j = cc (b.1, between_stand_in (parens n r) i j order among) in
    (omega arith, omega arith)

-- ---- one that stands

-- the record passes its check, and last is one of its entries
stood : (r : List ℕ) (f l n : ℕ) → window_says r f l ≡ answer n → (check_says r ≡ answer n) × (l < n)
unfolding window_says
stood r f l n e =
    let (m, says, on) = went_on (check_says r) e in
    let a = passed (ltb l m) 8 (not_refused (ltb l f) 8 on).1 in
    let same : m ≡ n = cc a.1 in
    (says ∙ ap answer same, omega (arith, ltb-true l m a.0))

-- behind the record check the plain ask refuses with 8 alone, so that whatever gives 8 behind its answers gives 8
eight : (r : List ℕ) (i j n : ℕ) (next : ℕ → Outcome) → check_says r ≡ answer n → ((p : ℕ) → next p ≡ refusal 8) → unless_refused (ask_says r i j) next ≡ refusal 8
unfolding ask_says
eight r i j n next e h = rw e (by (ltb j i) (ltb j n))
  where
    by : (s t : Bool) → unless_refused (cond s (refusal 8) (cond t (answer (entry_between (parens n r) i j)) (refusal 8))) next ≡ refusal 8
    by true t = refl
    by false true = h (entry_between (parens n r) i j)
    by false false = refl

plain_inside : (b : List ℕ) (f l i j : ℕ) → f ≤ i → j ≤ l → window_ask_says b f l i j ≡ ask_says b i j
plain_inside b f l i j h g = by (ask_says b i j) refl
  where
    by : (o : Outcome) → ask_says b i j ≡ o → window_ask_says b f l i j ≡ ask_says b i j
    by (answer p) e = in_inside b f l i j e h g ∙ sym e
    by (refusal k) e = in_refused b f l i j e ∙ sym e

module _ (r : List ℕ) (f l n : ℕ) (e : window_says r f l ≡ answer n) where
  -- the bytes and the numbers as they were passed
  whole : (i j : ℕ) → through_says r f l i j ≡ window_ask_says r f l i j
  unfolding through_says
  whole i j = let (b, x, y) = stands_keeps r f l e in rw (b, x, y)

  stands : Standing r f l n
  unfolding window_ask_says ask_says
  stands =
      let (c, among) = stood r f l n e in
      record {
        inside = λ i j h g. whole i j ∙ plain_inside r f l i j h g;
        answered = λ i j h o g. whole i j ∙ plain_inside r f l i j h g ∙ rw (c, le-ltb j i o, lt-ltb j n (omega arith));
        below = λ i j h. whole i j ∙ eight r i j n _ c (λ p. rw (lt-ltb i f h));
        above = λ i j h. whole i j ∙ eight r i j n _ c (λ p. rw (lt-ltb l j h) (either (ltb i f)));
      }
    where
      either : (b : Bool) → cond b (refusal 8) (refusal 8) ≡ refusal 8
      either true = refl
      either false = refl

-- ---- any window

refused_five : (r : List ℕ) (f l k i j : ℕ) → window_says r f l ≡ refusal k → through_says r f l i j ≡ refusal 5
unfolding through_says window_ask_says ask_says check_says frame_says
refused_five r f l k i j e = rw (refused_keeps r f l e).0

places_within : (b : List ℕ) (f l i j p : ℕ) → window_ask_says b f l i j ≡ answer p → (f ≤ i) × (i ≤ p) × (p ≤ j) × (j ≤ l)
unfolding window_ask_says
places_within b f l i j p e =
    let (q, says, on) = went_on (ask_says b i j) e in
    let a = not_refused (ltb i f) 8 on in
    let c = not_refused (ltb l j) 8 a.1 in
    let same : q ≡ p = cc c.1 in
    let d = asked-within b i j q says in
    (ltb-false i f a.0, omega arith, omega arith, ltb-false l j c.0)

-- an ask in a window that was made
pub made_says : {r : List ℕ} {f l : ℕ} {w : Window} (i j : ℕ) → Made r f l w → in_window w i j ≡ through_says r f l i j
unfolding through_says
made_says i j m = rw (m.bytes, m.first, m.last)

pub windows : Windows
windows =
    record {
      kept = λ r f l n w m e.
          let (b, x, y) = stands_keeps r f l e in (m.bytes ∙ b, m.first ∙ x, m.last ∙ y);
      kept_none = λ r f l k w m e.
          let (b, x, y) = refused_keeps r f l e in (m.bytes ∙ b, m.first ∙ x, m.last ∙ y);
      made = λ r f l i j w m. made_says i j m;
      standing = stands;
      refused = refused_five;
      within = λ w. places_within w.bytes.now w.first w.last;
    }

-- ---- one result for one input

pub once : Once
once =
    record {
      refusal_of = λ r f l. one;
      make = λ r f l w x m y. (m.bytes ∙ sym y.bytes, m.first ∙ sym y.first, m.last ∙ sym y.last);
      ask_in = λ w i j. one;
      ask_through = λ r f l i j. one;
    }
