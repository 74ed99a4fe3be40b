-- What is left of a listing, one line at a time.
-- Assumes nothing.
use mathlib.Core.Path.{◌≡◌, refl, sym, ◌∙◌}
use Prim.Native.Nat.{ℕ, zero, suc, ◌+◌, ◌-◌, ◌≤◌, ◌<◌}
use native.Mathlib.Nat.{add-zero}
use native.Mathlib.Omega.{arith}
use mathlib.Core.List.{List, [], ◌∷◌}
use borrow.Author.Tests.{lt-ltb, le-ltb}
use Rattle.std.specs.Prelude.{true, false, Option, Some, None, IsSome}
use lib.ListN.{length, take, drop, length-drop, length-append, drop_of_length-le}
use lib.Seq.{drop-drop}
use Rattle.rules.specs.Bytes.{record_length}
use Rattle.rules.specs.Refusal.{Outcome, answer, refusal}
use Rattle.rules.specs.Order.{frame_says}
use Rattle.rules.specs.Drawer.{most_records, found, seek}
use Rattle.drawer.proofs.Walk.{stands}
use Rattle.rules.specs.Listing.{refused_line, end_line, record_line, lines_from, ended_lines}
use Rattle.listing.specs.Room.{line_room}
use Rattle.listing.specs.Text.{Anew}
use Rattle.listing.specs.declared.line.Text.{Text}
use Rattle.listing.specs.declared.Rest.{Rest}
use Rattle.listing.specs.declared.Rest.TheVariants.{Lines, End, Long}
use Rattle.listing.specs.Left.{lines_of, lines_left, other_lines, behind_frame, behind_line, rest_of, Tells, WritesLine}
use Rattle.listing.proofs.Writing.{anew_out}

lines_none : (m k : ℕ) → lines_from m k [] ≡ []
unfolding lines_from
lines_none zero k = refl
lines_none (suc m) k = refl

ended_more : (k : ℕ) (l : List ℕ) (ls : List (List ℕ)) → ended_lines k (l ∷ ls) ≡ l ∷ ended_lines (k + 1) ls
unfolding ended_lines
ended_more k l ls = let e : k + suc (length ls) ≡ k + 1 + length ls = omega arith in rw e

-- the first of the lines that are left from a record on, and what stands for the others
module _ (d : List ℕ) (k at : ℕ) where
  pub left_end : length d ≤ at → lines_of d (Lines k at) ≡ end_line k ∷ []
  unfolding ended_lines
  left_end h = rw (drop_of_length-le d h, lines_none (most_records - k) k, add-zero)

  pub behind_end : length d ≤ at → behind_line d k at ≡ None
  unfolding behind_line
  behind_end h = rw (le-ltb at (length d) h)

  -- a byte stands there
  module _ (h : at < length d) where
    some : 0 < length (drop at d)
    some = omega (arith, length-drop at d)

    pub left-full : most_records ≤ k → lines_of d (Lines k at) ≡ refused_line k 14 ∷ end_line (k + 1) ∷ []
    unfolding ended_lines lines_from
    left-full l =
        let none : most_records - k ≡ 0 = omega arith in
        rw (none, lt-ltb 0 (length (drop at d)) some)

    pub behind-full : most_records ≤ k → behind_line d k at ≡ Some (End (k + 1))
    unfolding behind_line
    behind-full l = rw (lt-ltb at (length d) h, le-ltb k most_records l)

    pub behind-record : {o : Outcome} → k < most_records → frame_says (drop at d) ≡ o → behind_line d k at ≡ Some (behind_frame k at o)
    unfolding behind_line
    behind-record l e = rw (lt-ltb at (length d) h, lt-ltb k most_records l, e)

    pub left-fault : (x : ℕ) → k < most_records → frame_says (drop at d) ≡ refusal x → lines_of d (Lines k at) ≡ refused_line k x ∷ end_line (k + 1) ∷ []
    unfolding ended_lines lines_from
    left-fault x l e =
        let more : most_records - k ≡ suc (most_records - (k + 1)) = omega arith in
        rw (more, lt-ltb 0 (length (drop at d)) some, e)

    pub left-more : (n : ℕ) → k < most_records → frame_says (drop at d) ≡ answer n
        → lines_of d (Lines k at) ≡ record_line k (take (record_length n) (drop at d)) ∷ lines_of d (Lines (k + 1) (at + record_length n))
    unfolding lines_from
    left-more n l e =
        let more : most_records - k ≡ suc (most_records - (k + 1)) = omega arith in
        rw (more, lt-ltb 0 (length (drop at d)) some, e, drop-drop, ended_more)

-- a text that is the first of those left, wherever it stands
pub tells : {d t : List ℕ} {from : Rest} {r : Option Rest} {l : List ℕ} → lines_of d from ≡ l ∷ lines_left d r → rest_of d from ≡ r → t ≡ l → Tells d (Some from) r t
tells e f g = record { text = rw e g; lines = rw e; value = sym f }

-- the line of a record that stands there
pub tells_record : {d t : List ℕ} {k : ℕ} (at : ℕ) → at < length d → k < most_records → (p m : ℕ) → seek d 0 at ≡ found p m
    → t ≡ record_line k (take (p + m - p) (drop p d)) → Tells d (Some (Lines k at)) (Some (Lines (k + 1) (p + m))) t
tells_record {d} {t} {k} at h few p m e f = let s = stands d at p m e in by s.n s.framed s.here s.size
  where
    by : (n : ℕ) → frame_says (drop at d) ≡ answer n → p ≡ at → m ≡ record_length n → Tells d (Some (Lines k at)) (Some (Lines (k + 1) (p + m))) t
    by n framed here is =
        let cut : p + m - p ≡ record_length n = omega arith in
        rw (here, is) (tells (left-more d k at h n few framed) (behind-record d k at h few framed) (f ∙ rw (cut, here)))

-- one that stands at the start of a lent line
told : {d t : List ℕ} {from r : Option Rest} {x y : Text} → Tells d from r t → Anew t x y → y.used ≤ line_room → WritesLine d from x.line.now r y.used y.line.now
told w a h =
    record {
      size = rw (← w.text) a.size;
      room = h;
      text = rw (← w.text) a.text;
      out = rw (← w.text) (anew_out a);
      lines = w.lines;
      value = w.value;
    }

pub writes : {d t : List ℕ} {from : Rest} {x y : Text} {r : Option Rest} {l : List ℕ} → lines_of d from ≡ l ∷ lines_left d r → rest_of d from ≡ r → Anew t x y
    → t ≡ l → y.used ≤ line_room → WritesLine d (Some from) x.line.now r y.used y.line.now
writes e f a g h = told (tells e f g) a h

pub passes : {d t : List ℕ} {x y : Text} {k : ℕ} (at : ℕ) → at < length d → k < most_records → (p m : ℕ) → seek d 0 at ≡ found p m → Anew t x y
    → t ≡ record_line k (take (p + m - p) (drop p d)) → y.used ≤ line_room
    → WritesLine d (Some (Lines k at)) x.line.now (Some (Lines (k + 1) (p + m))) y.used y.line.now
passes at h few p m e a f room = told (tells_record at h few p m e f) a room

-- at least one is left
some_left : (d : List ℕ) (from : Rest) → 0 < length (lines_of d from)
unfolding ended_lines
some_left d (Lines k at) = simp length-append (omega arith)
some_left d (End c) = omega arith
some_left d Long = omega arith

-- what a caller in a loop goes by: each line that is written is one fewer
pub fewer : {d t : List ℕ} {r : Option Rest} (from : Option Rest) → IsSome from → Tells d from r t → length (lines_left d r) < length (lines_left d from)
fewer None h w = let x : false ≡ true = h in cc
fewer {d} (Some from) h w = rw w.lines (by (lines_of d from) (some_left d from))
  where
    by : (ls : List (List ℕ)) → 0 < length ls → length (other_lines ls) < length ls
    by [] h = absurd (omega arith)
    by (l ∷ ls) h = omega arith

-- a line that is written tells its text
pub written_tells : {d o o' : List ℕ} {from r : Option Rest} {used : ℕ} → WritesLine d from o r used o' → Tells d from r (take used o')
written_tells w = record { text = w.text; lines = w.lines; value = w.value }

pub one_fewer : {d o o' : List ℕ} {r : Option Rest} {used : ℕ} (from : Option Rest) → IsSome from → WritesLine d from o r used o'
    → length (lines_left d r) < length (lines_left d from)
one_fewer from h w = fewer from h (written_tells w)
