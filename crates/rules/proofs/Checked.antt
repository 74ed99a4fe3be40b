-- What passes the frame and what passes the record check, in words: the tests in the document's order say neither less nor more.
-- Assumes nothing.
use mathlib.Core.Path.{◌≡◌, refl}
use Prim.Native.Nat.{ℕ, ◌*◌, ◌≤◌}
use native.Mathlib.Omega.{arith}
use mathlib.Core.Bool.{Bool, true, false, cond}
use mathlib.Core.List.{List}
use borrow.Author.Tests.{ltb-false, le-ltb, eqb-true, eq-eqb}
use lib.Dec.{ltb, eqb}
use lib.ListN.{length, drop, get_or, length-take, length-drop}
use Rattle.rules.specs.Excess.{openings, Balanced, balanced}
use Rattle.rules.specs.Bytes.{most, record_length, entries, parens, unused}
use Rattle.rules.specs.Refusal.{Outcome, answer, refusal, unless_refused}
use Rattle.rules.specs.Order.{frame_says, check_says}
use Rattle.rules.proofs.Excess.{balanced_is, is_balanced}
use Rattle.rules.proofs.Bytes.{all_bits-length}

-- ---- an answer behind a test

pub not_refused : (b : Bool) (k : ℕ) {n : ℕ} {o : Outcome} → cond b (refusal k) o ≡ answer n → (b ≡ false) × (o ≡ answer n)
not_refused true k e = absurd (let z : ◌≡◌ {A = ℕ} 0 1 = cc in omega arith)
not_refused false k e = (refl, e)

pub passed : (b : Bool) (k : ℕ) {n : ℕ} {o : Outcome} → cond b o (refusal k) ≡ answer n → (b ≡ true) × (o ≡ answer n)
passed true k e = (refl, e)
passed false k e = absurd (let z : ◌≡◌ {A = ℕ} 0 1 = cc in omega arith)

-- an answer behind checks that say a number themselves
pub went_on : (o : Outcome) {n : ℕ} {next : ℕ → Outcome} → unless_refused o next ≡ answer n → (m : ℕ) × (o ≡ answer m) × (next m ≡ answer n)
went_on (answer m) e = (m, refl, e)
went_on (refusal k) e = absurd (let z : ◌≡◌ {A = ℕ} 0 1 = cc in omega arith)

-- ---- the frame

-- r begins with a record of n entries, as far as the head tells
pub record Framed (r : List ℕ) (n : ℕ) : Type 0 where
  pub mark_first : get_or r 0 0 ≡ 0x52
  pub mark_second : get_or r 1 0 ≡ 0x4D
  pub says : entries r ≡ n
  pub few : n ≤ most
  pub long : record_length n ≤ length r

pub framed_says : {r : List ℕ} {n : ℕ} → Framed r n → frame_says r ≡ answer n
unfolding frame_says
framed_says {r} {n} f =
    rw (f.says, le-ltb (length r) 4 (omega arith), eq-eqb (get_or r 0 0) 0x52 f.mark_first, eq-eqb (get_or r 1 0) 0x4D f.mark_second, le-ltb most n f.few, le-ltb (length r) (record_length n) f.long)

pub says_framed : (r : List ℕ) (n : ℕ) → frame_says r ≡ answer n → Framed r n
unfolding frame_says
says_framed r n e =
    let a = not_refused (ltb (length r) 4) 5 e in
    let b = passed (eqb (get_or r 0 0) 0x52) 4 a.1 in
    let c = passed (eqb (get_or r 1 0) 0x4D) 4 b.1 in
    let d = not_refused (ltb most (entries r)) 1 c.1 in
    let f = not_refused (ltb (length r) (record_length (entries r))) 5 d.1 in
    let n-is : entries r ≡ n = cc f.1 in
    record {
      mark_first = eqb-true (get_or r 0 0) 0x52 b.0;
      mark_second = eqb-true (get_or r 1 0) 0x4D c.0;
      says = n-is;
      few = omega (arith, ltb-false most (entries r) d.0);
      long = omega (arith, ltb-false (length r) (record_length (entries r)) f.0);
    }

-- ---- the record check

-- r is a record of n entries, no byte more, with balanced parentheses and no unused bit that opens
pub record Checked (r : List ℕ) (n : ℕ) : Type 0 where
  pub framed : Framed r n
  pub whole : length r ≡ record_length n
  pub clear : openings (unused n r) ≡ 0
  pub balance : Balanced (parens n r)

pub checked_says : {r : List ℕ} {n : ℕ} → Checked r n → check_says r ≡ answer n
unfolding check_says
checked_says {r} {n} c =
    rw (framed_says c.framed, le-ltb (record_length n) (length r) (omega arith), c.clear, is_balanced (parens n r) c.balance)

pub says_checked : (r : List ℕ) (n : ℕ) → check_says r ≡ answer n → Checked r n
unfolding check_says
says_checked r n e =
    let (m, says, on) = went_on (frame_says r) e in
    let a = not_refused (ltb (record_length m) (length r)) 11 on in
    let b = not_refused (ltb 0 (openings (unused m r))) 6 a.1 in
    let c = passed (balanced (parens m r)) 7 b.1 in
    let same : m ≡ n = cc c.1 in
    rw (← same) (record {
      framed = says_framed r m says;
      whole = omega (arith, ltb-false (record_length m) (length r) a.0, says_framed r m says);
      clear = omega (arith, ltb-false 0 (openings (unused m r)) b.0);
      balance = balanced_is (parens m r) c.0;
    })

-- two for each entry
pub parens-length : (r : List ℕ) (n : ℕ) → record_length n ≤ length r → length (parens n r) ≡ 2 * n
unfolding parens
parens-length r n long =
    simp length-take (omega (arith, all_bits-length (drop 4 r), length-drop 4 r))
