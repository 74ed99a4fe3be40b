-- What the listing's rule amounts to, proved. Assumes nothing.
use mathlib.Core.Path.{◌≡◌, refl, sym, ap, ◌∙◌}
use Prim.Native.Nat.{ℕ, zero, suc, ◌+◌, ◌-◌, ◌≤◌, ◌<◌}
use native.Mathlib.Nat.{zero-add}
use native.Mathlib.Omega.{arith}
use mathlib.Core.List.{List, [], ◌∷◌, ◌++◌, append_assoc, append-nil, flatten}
use native.Mathlib.Decide.{dec_lt}
use mathlib.Core.Bool.{Bool, true, false, cond}
use borrow.Author.Tests.{lt-ltb, le-ltb}
use Rattle.std.specs.Prelude.{Option, Some, None}
use lib.Dec.{ltb}
use lib.ListN.{length, take, drop, length-append, length-take}
use lib.Seq.{take_at, drop_at}
use Rattle.rules.specs.Shape.{shape}
use Rattle.rules.specs.Bytes.{most, record_length, entries, record_of, column_record}
use Rattle.rules.specs.Refusal.{Outcome, answer, refusal}
use Rattle.rules.specs.Order.{frame_says}
use Rattle.rules.specs.Drawer.{most_bytes, most_records, records_from, records_in, buffer_after}
use Rattle.rules.specs.Listing.{shape_line, end_line, long_line, record_line, lines_from, ended_lines, listing_lines, listing}
use Rattle.rules.proofs.Checked.{framed_says}
use Rattle.rules.proofs.Record.{record_length_lem, record_entries}
use Rattle.rules.proofs.Drawer.{append_answers, build_answers}
use Rattle.rules.proofs.Listing.{listings}
use Rattle.append.proofs.Drawers.{appending}
use Rattle.listing.specs.declared.Rest.{Rest}
use Rattle.listing.specs.declared.Rest.TheVariants.{Lines, End, Long}
use Rattle.listing.specs.Left.{lines_of, lines_left, first_line, other_lines, all_of, behind_line, rest_after}
use Rattle.listing.proofs.Onward.{left_end, left-full, left-fault, left-more, behind_end, behind-full, behind-record}
use Rattle.promises.specs.Listed.{Made, none, more, column_lines, calls, Listed}
use Rattle.promises.proofs.Demand2.{column-accepted, column-parens}

-- ---- the records of some columns, one behind the other

joined : List (List ℕ) → List ℕ
joined [] = []
joined (c ∷ cs) = column_record c ++ joined cs

joined_behind : (cs : List (List ℕ)) (c : List ℕ) → joined (cs ++ (c ∷ [])) ≡ joined cs ++ column_record c
unfolding joined
joined_behind [] c = append-nil (column_record c)
joined_behind (d ∷ cs) c = rw (joined_behind cs c, append_assoc)

-- each of them is short enough
data Few : List (List ℕ) → Type 0 where
  few_none : Few []
  few_more : {c : List ℕ} {cs : List (List ℕ)} → length c ≤ most → Few cs → Few (c ∷ cs)

few_behind : {cs : List (List ℕ)} (c : List ℕ) → Few cs → length c ≤ most → Few (cs ++ (c ∷ []))
few_behind c few_none h = few_more h few_none
few_behind c (few_more l f) h = few_more l (few_behind c f h)

column-length : (c : List ℕ) → length (column_record c) ≡ record_length (length c)
unfolding column_record
column-length c = record_length_lem (length c) (shape c)

column_ahead : (c r : List ℕ) → length c ≤ most → frame_says (column_record c ++ r) ≡ answer (length c)
unfolding column_record record_of entries
column_ahead c r few =
    framed_says (record {
      mark_first = refl;
      mark_second = refl;
      says = record_entries (length c) (shape c);
      few = few;
      long = simp length-append (omega (arith, record_length_lem (length c) (shape c)));
    })

column_line : (k : ℕ) (c : List ℕ) → length c ≤ most → record_line k (column_record c) ≡ shape_line k (length c) (shape c)
unfolding record_line
column_line k c few = rw (column-accepted c few, column-parens c)

lines-joined : (cs : List (List ℕ)) (m k : ℕ) → Few cs → length cs ≤ m → lines_from m k (joined cs) ≡ column_lines k cs
unfolding joined column_lines lines_from
lines-joined [] zero k f h = refl
lines-joined [] (suc m) k f h = refl
lines-joined (c ∷ cs) zero k f h = absurd (omega arith)
lines-joined (c ∷ cs) (suc m) k (few_more l f) h =
    let some : 0 < length (column_record c ++ joined cs) = simp length-append (omega (arith, column-length c)) in
    rw (lt-ltb 0 (length (column_record c ++ joined cs)) some, column_ahead c (joined cs) l, take_at (column_record c) (joined cs) (record_length (length c)) (column-length c), drop_at (column_record c) (joined cs) (record_length (length c)) (column-length c), column_line k c l, lines-joined cs m (k + 1) f (omega arith))

lines-length : (k : ℕ) (cs : List (List ℕ)) → length (column_lines k cs) ≡ length cs
unfolding column_lines
lines-length k [] = refl
lines-length k (c ∷ cs) = ap suc (lines-length (k + 1) cs)

-- ---- a drawer made by appends

record Kept (b : List ℕ) (u : ℕ) (cs : List (List ℕ)) : Type 0 where
  bytes : take u b ≡ joined cs
  short : length (take u b) ≤ most_bytes
  records : records_in (take u b) ≡ answer (length cs)
  count : length cs ≤ most_records
  few : Few cs

records_none : records_in [] ≡ answer 0
unfolding records_in records_from
records_none = refl

kept : {b : List ℕ} {u : ℕ} {cs : List (List ℕ)} → Made b u cs → Kept b u cs
unfolding joined
kept (none b) =
    record { bytes = refl; short = omega arith; records = records_none; count = omega arith; few = few_none }
kept (more b u cs c w v made says) =
    let k = kept made in
    let (j, a) = appending.appended b u c w v says in
    let (i, ready, l, built, sum) = append_answers b u c (length w) says in
    let same : ◌≡◌ {A = Outcome} (answer j) (answer (length cs)) = sym a.before ∙ k.records in
    let count : j ≡ length cs = cc in
    let one_more_lem : length (cs ++ (c ∷ [])) ≡ j + 1 = length-append cs (c ∷ []) ∙ ap (λ x. x + 1) (sym count) in
    record {
      bytes = a.joined ∙ ap (λ x. x ++ column_record c) k.bytes ∙ sym (joined_behind cs c);
      short = omega (arith, length-take v (buffer_after b u c w), a.bytes);
      records = a.drawer ∙ ap answer (sym one_more_lem);
      count = omega (arith, a.records);
      few = few_behind c k.few (build_answers c (length w) (length b - u) built).few;
    }

appended : (b : List ℕ) (u : ℕ) (cs : List (List ℕ)) → Made b u cs → listing_lines (take u b) ≡ column_lines 0 cs ++ (end_line (length cs) ∷ [])
unfolding listing_lines ended_lines
appended b u cs made =
    let k = kept made in
    rw (le-ltb most_bytes (length (take u b)) k.short, k.bytes, lines-joined cs most_records 0 k.few k.count, lines-length, zero-add)

-- ---- the calls of a run

onward : (d : List ℕ) (from : Option Rest) → lines_left d (rest_after d from) ≡ other_lines (lines_left d from)
onward d None = refl
onward d (Some (End c)) = refl
onward d (Some Long) = refl
onward d (Some (Lines k at)) = by (dec_lt at (length d)) (dec_lt k most_records) (frame_says (drop at d)) refl
  where
    by : Dec (at < length d) → Dec (k < most_records) → (o : Outcome) → frame_says (drop at d) ≡ o
        → lines_left d (behind_line d k at) ≡ other_lines (lines_of d (Lines k at))
    by (no p) q o e = let h : length d ≤ at = omega arith in rw (behind_end d k at h, left_end d k at h)
    by (yes p) (no q) o e = let h : most_records ≤ k = omega arith in rw (behind-full d k at p h, left-full d k at p h)
    by (yes p) (yes q) (answer n) e = rw (behind-record d k at p q e, left-more d k at p n q e)
    by (yes p) (yes q) (refusal x) e = rw (behind-record d k at p q e, left-fault d k at p x q e)

run : (m : ℕ) (d : List ℕ) (from : Option Rest) → length (lines_left d from) ≤ m → flatten (calls m d from) ≡ flatten (lines_left d from)
unfolding calls flatten
run zero d from h = by (lines_left d from) h
  where
    by : (ls : List (List ℕ)) → length ls ≤ 0 → [] ≡ flatten ls
    by [] h = refl
    by (l ∷ ls) h = absurd (omega arith)
run (suc m) d from h = by (lines_left d from) h (onward d from) (run m d (rest_after d from))
  where
    by : (ls : List (List ℕ)) → length ls ≤ suc m → lines_left d (rest_after d from) ≡ other_lines ls
        → (length (lines_left d (rest_after d from)) ≤ m → flatten (calls m d (rest_after d from)) ≡ flatten (lines_left d (rest_after d from)))
        → first_line ls ++ flatten (calls m d (rest_after d from)) ≡ flatten ls
    by [] h e next = next (rw e (omega arith)) ∙ rw e
    by (l ∷ ls) h e next = ap (λ x. l ++ x) (next (rw e (omega arith)) ∙ rw e)

all_lines : (d : List ℕ) → lines_of d (all_of d) ≡ listing_lines d
unfolding all_of listing_lines
all_lines d = by (ltb most_bytes (length d))
  where
    by : (t : Bool) → lines_of d (cond t Long (Lines 0 0)) ≡ cond t (long_line ∷ []) (ended_lines 0 (lines_from most_records 0 d))
    by true = refl
    by false = refl

whole : (d : List ℕ) (m : ℕ) → length (listing_lines d) ≤ m → flatten (calls m d (Some (all_of d))) ≡ listing d
unfolding listing
whole d m h = run m d (Some (all_of d)) (rw (all_lines d) h) ∙ ap flatten (all_lines d)

pub listed : Listed
listed =
    record {
      empty = listings.empty;
      appended = appended;
      whole = whole;
      start_once = λ d x y s t. s.value ∙ sym t.value;
      next_once = λ d from o s t a b x y v w. (v.value ∙ sym w.value, v.size ∙ sym w.size, v.out ∙ sym w.out);
      text_once = λ d from o p s t a b x y v w. (v.value ∙ sym w.value, v.text ∙ sym w.text);
      told_once = λ d from s t x y v w. (v.value ∙ sym w.value, v.text ∙ sym w.text);
    }
