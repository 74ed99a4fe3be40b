-- What the rules of drawers amount to, proved: appended records are found, the look and its question agree, the own drawer comes first, append
-- keeps the counts private, and no input allows two results. Assumes nothing.
use mathlib.Core.Path.{◌≡◌, refl, sym, ap, ◌∙◌}
use Prim.Native.Nat.{ℕ, ◌+◌, ◌-◌, ◌≤◌, ◌<◌}
use native.Mathlib.Omega.{arith}
use mathlib.Core.List.{List, ◌++◌, append_assoc}
use borrow.Author.Tests.{le-ltb}
use lib.ListN.{length, take, drop, length-append, length-take, length-drop}
use lib.Seq.{take_all, take_at, drop_at, drop-drop, length-take-le, take-append-le, drop-append-le}
use Rattle.rules.specs.Shape.{shape}
use Rattle.rules.specs.Bytes.{most, record_length, record_of, column_record}
use Rattle.rules.specs.Refusal.{answer}
use Rattle.rules.specs.Order.{frame_says, build_says, output_after, work_after}
use Rattle.rules.specs.Drawer.{most_bytes, most_records, Found, found, lost, find_says, part_of, hand_out, own, shared, Look, part, nothing, look_says, look_part, whence, which_says, records_in, append_says, buffer_after, work_after_append}
use Rattle.rules.proofs.Checked.{framed_says}
use Rattle.rules.proofs.Record.{record_length_lem, record_entries}
use Rattle.rules.proofs.Drawer.{found_within, find-seek, seek_before, seek-behind, Found_in, look_own, look-found, Records, records_are, records-behind, records-count, Ready, append_builds, append_answers, build_answers}
use Rattle.theory.proofs.Agree.{alike_record}
use Rattle.answers.proofs.Said.{said_once}
use Rattle.drawer.proofs.Said.{found_once, whence_once}
use Rattle.append.specs.Drawers.{Appended, Appending, Agrees, Looking, OwnFirst, AppendPrivate, DrawerOnce}

-- ---- a column's record, framed

column-length : (c : List ℕ) → length (column_record c) ≡ record_length (length c)
unfolding column_record
column-length c = record_length_lem (length c) (shape c)

column-framed : (c : List ℕ) → length c ≤ most → frame_says (column_record c) ≡ answer (length c)
unfolding column_record record_of
column-framed c few =
    framed_says (record {
      mark_first = refl;
      mark_second = refl;
      says = record_entries (length c) (shape c);
      few = few;
      long = omega (arith, record_length_lem (length c) (shape c));
    })

-- ---- after an append that answers

-- what has been checked on the way, and what the buffer is then
record Grown (b : List ℕ) (u : ℕ) (c w : List ℕ) (v k : ℕ) : Type 0 where
  ready : Ready b u k
  few : length c ≤ most
  ends : u + record_length (length c) ≡ v
  fits : v ≤ length b
  after : buffer_after b u c w ≡ (take u b ++ column_record c) ++ drop v b

grown : (b : List ℕ) (u : ℕ) (c w : List ℕ) (v : ℕ) → append_says b u c (length w) ≡ answer v → (k : ℕ) × Grown b u c w v k
unfolding buffer_after output_after
grown b u c w v e =
    let (k, ready, l, says, sum) = append_answers b u c (length w) e in
    let f = build_answers c (length w) (length b - u) says in
    let ends : u + record_length (length c) ≡ v = omega (arith, f.size) in (
      k,
      record {
        ready = ready;
        few = f.few;
        ends = ends;
        fits = omega (arith, f.room, ready.used);
        after = rw (e, length-drop u b, says, append_assoc, drop-drop, ends);
      },
    )

module _ (b : List ℕ) (u : ℕ) (c w : List ℕ) (v k : ℕ) (g : Grown b u c w v k) where
  -- the used bytes, before and after
  was : List ℕ
  was = take u b

  was-length : length was ≡ u
  unfolding was
  was-length = length-take-le u b g.ready.used

  joined_length : length (was ++ column_record c) ≡ v
  joined_length = omega (arith, length-append was (column_record c), was-length, column-length c, g.ends)

  is : take v (buffer_after b u c w) ≡ was ++ column_record c
  unfolding was
  is = rw g.after (take_at (was ++ column_record c) (drop v b) v joined_length)

  records : Records was 0 k
  unfolding was
  records = records_are was k g.ready.whole

  framed : frame_says (column_record c) ≡ answer (length c)
  framed = column-framed c g.few

  short : v ≤ most_bytes
  short = omega (arith, g.fits, g.ready.short)

  counted : records_in (was ++ column_record c) ≡ answer (k + 1)
  unfolding records_in
  counted =
      records-count (records-behind was (column_record c) (length c) framed (column-length c) records) 0 ∙ ap answer (omega arith)

  newest : find_says (was ++ column_record c) k ≡ found u (v - u)
  newest =
      let l : record_length (length c) ≡ v - u = omega (arith, g.ends) in
      find-seek (was ++ column_record c) k (omega (arith, joined_length, short)) g.ready.room
      ∙ rw (was-length, l) at (seek-behind was (column_record c) (length c) framed records)

  earlier : (r : ℕ) → r < k → find_says (was ++ column_record c) r ≡ find_says was r
  earlier r h =
      let in-range : r < most_records = omega (arith, g.ready.room) in
      find-seek (was ++ column_record c) r (omega (arith, joined_length, short)) in-range
      ∙ seek_before was (column_record c) records r h
      ∙ sym (find-seek was r (omega (arith, was-length, short, g.ends)) in-range)

  -- what is found in front is the same part of both
  same_part : (r : ℕ) (f : Found) → find_says was r ≡ f → part_of (was ++ column_record c) f ≡ part_of was f
  same_part r (found p l) e =
      let h : p + l ≤ length was = (found_within was r p l e).within in
      rw (drop-append-le p was (column_record c) (omega arith), take-append-le l (drop p was) (column_record c) (omega (arith, length-drop p was)))
  same_part r (lost k) e = refl

  kept : (r : ℕ) → r < k → hand_out (was ++ column_record c) r ≡ hand_out was r
  unfolding hand_out
  kept r h = rw (earlier r h) (same_part r (find_says was r) refl)

  column : hand_out (was ++ column_record c) k ≡ column_record c
  unfolding hand_out
  column =
      let l : length (column_record c) ≤ v - u = omega (arith, column-length c, g.ends) in
      rw (newest, drop_at was (column_record c) u was-length) (take_all (v - u) (column_record c) l)

  front : take u (buffer_after b u c w) ≡ take u b
  unfolding was
  front = rw (g.after, append_assoc) (take_at was (column_record c ++ drop v b) u was-length)

  behind : drop v (buffer_after b u c w) ≡ drop v b
  unfolding was
  behind = rw g.after (drop_at (was ++ column_record c) (drop v b) v joined_length)

  appended : Appended b u c w v k
  unfolding was
  appended =
      record {
        before = g.ready.whole;
        drawer = rw is counted;
        joined = is;
        records = omega (arith, g.ready.room);
        bytes = short;
        newest = rw is newest;
        column = rw is column;
        earlier = λ r h. rw is (earlier r h);
        kept = λ r h. rw is (kept r h);
        front = front;
        behind = behind;
      }

accepted : (b : List ℕ) (u k : ℕ) (c w : List ℕ) → Ready b u k → length c ≤ most → record_length (length c) ≤ length b - u → length c ≤ length w
    → append_says b u c (length w) ≡ answer (u + record_length (length c))
unfolding build_says
accepted b u k c w ready few room work =
    rw (append_builds b u c (length w) ready, le-ltb most (length c) few, le-ltb (length b - u) (record_length (length c)) room, le-ltb (length w) (length c) work)

pub appending : Appending
appending =
    record {
      accepted = λ b u k c w short used whole free. accepted b u k c w (record { short = short; used = used; whole = whole; room = free });
      appended = λ b u c w v e. let (k, g) = grown b u c w v e in (k, appended b u c w v k g);
    }

-- ---- the look and its question

-- a part that is found has a record's four bytes at least, and is the hand-out
found_part : (d : List ℕ) (r p l : ℕ) → find_says d r ≡ found p l → (take l (drop p d) ≡ hand_out d r) × (4 ≤ length (take l (drop p d)))
unfolding hand_out
found_part d r p l e =
    (rw e, simp (length-take, length-drop) (omega (arith, found_within d r p l e)))

agree : (d s : List ℕ) (r : ℕ) (x : Look) → Found_in d s r x → Agrees d s r (whence x) (look_part d s x)
agree d s r (part own p l) e = found_part d r p l e
agree d s r (part shared p l) e = found_part s r p l e
agree d s r (nothing own k) e = (refl, e)
agree d s r (nothing shared k) e = (refl, e)

pub looking : Looking
unfolding which_says
looking = record { agree = λ d s r. agree d s r (look_says d s r) (look-found d s r) }

pub own_first : OwnFirst
unfolding which_says
own_first =
    record {
      own_first = λ d r p l e h s s'.
          let a = look_own d s r e h in
          let b = look_own d s' r e h in
          (a ∙ sym b, rw (a, b), rw (a, b));
    }

-- ---- privacy

-- append's rule never looks at a count: it goes by the length and the record
same_rules : (b : List ℕ) (u : ℕ) (c d w : List ℕ) → length c ≡ length d → column_record c ≡ column_record d
    → (append_says b u c (length w) ≡ append_says b u d (length w)) × (buffer_after b u c w ≡ buffer_after b u d w) × (work_after_append b u c w ≡ work_after_append b u d w)
unfolding append_says buffer_after work_after_append build_says output_after work_after
same_rules b u c d w len rec = (rw len, rw (len, rec), rw len)

pub append-private : AppendPrivate
append-private =
    record {
      private = λ b u c d w len alike x y b₁ w₁ b₂ w₂ one two.
          let (says, buffer, work) = same_rules b u c d w len (alike_record c d len alike) in (
            said_once x y (one.says ∙ says ∙ sym two.says),
            one.buffer ∙ buffer ∙ sym two.buffer,
            ap (take (length c)) (one.work ∙ work ∙ sym two.work),
          );
    }

-- ---- no input allows two results

pub drawer_once : DrawerOnce
drawer_once =
    record {
      find = λ d r x y e f. found_once x y (e ∙ sym f);
      handed_out = λ d r x y e f. e ∙ sym f;
      look = λ d s r x y e f. e ∙ sym f;
      which = λ d s r x y e f. whence_once x y (e ∙ sym f);
      append = λ b u c w x y b₁ w₁ b₂ w₂ e f.
          (said_once x y (e.says ∙ sym f.says), e.buffer ∙ sym f.buffer, e.work ∙ sym f.work);
    }
