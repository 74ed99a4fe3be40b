-- Find and the count of records, one frame at a time and with no number that counts down; what a find that succeeds has told; and records put
-- behind a drawer. Assumes nothing.
use mathlib.Core.Path.{◌≡◌, refl, sym, ap, ◌∙◌}
use Prim.Native.Nat.{ℕ, zero, suc, ◌+◌, ◌-◌, ◌≤◌, ◌<◌}
use native.Mathlib.Omega.{arith}
use mathlib.Core.Bool.{Bool, true, false, cond}
use mathlib.Core.List.{List, ◌++◌}
use borrow.Author.Tests.{lt-ltb, le-ltb, ltb-true, ltb-false}
use lib.Dec.{ltb, eqb}
use lib.ListN.{length, take, drop, length-drop, length-append, get_or-append}
use lib.Seq.{take_all, drop-append-le, drop-append_seam}
use Rattle.rules.specs.Bytes.{most, record_length, entries}
use Rattle.rules.specs.Refusal.{Outcome, answer, refusal, unless_refused}
use Rattle.rules.specs.Order.{frame_says, build_says}
use Rattle.rules.specs.Drawer.{most_bytes, most_records, Found, found, lost, if_framed, seek, find_says, own, shared, Look, part, nothing, in_shared, own_first_of, look_says, one_more, records_from, records_in, append_says}
use Rattle.rules.proofs.Checked.{framed_says, says_framed, not_refused, passed, went_on}

-- all that stands from a place on
pub rest : (d : List ℕ) (at : ℕ) → take (length d - at) (drop at d) ≡ drop at d
rest d at = take_all (length d - at) (drop at d) (omega (arith, length-drop at d))

-- what a frame over that says
pub frame-rest : (d : List ℕ) (at : ℕ) {x o : Outcome} → x ≡ o → x ≡ frame_says (take (length d - at) (drop at d)) → frame_says (drop at d) ≡ o
frame-rest d at e f = rw (← (rest d at)) (sym f ∙ e)

-- a record that is framed at a place ends within the drawer
pub frame-within : (d : List ℕ) (at n : ℕ) → frame_says (drop at d) ≡ answer n → at + record_length n ≤ length d
frame-within d at n e = omega (arith, (says_framed (drop at d) n e).long, length-drop at d)

-- ---- seek

pub seek_end : (d : List ℕ) (r at : ℕ) → length d ≤ at → seek d r at ≡ lost 10
unfolding seek
seek_end d zero at h = rw (le-ltb at (length d) h)
seek_end d (suc r) at h = rw (le-ltb at (length d) h)

pub seek_fault : (d : List ℕ) (r at k : ℕ) → at < length d → frame_says (drop at d) ≡ refusal k → seek d r at ≡ lost k
unfolding seek
seek_fault d zero at k h e = rw (lt-ltb at (length d) h, e)
seek_fault d (suc r) at k h e = rw (lt-ltb at (length d) h, e)

module _ (d : List ℕ) (at n : ℕ) (e : frame_says (drop at d) ≡ answer n) where
  pub seek_here : seek d 0 at ≡ found at (record_length n)
  unfolding seek
  seek_here = rw (lt-ltb at (length d) (omega (arith, frame-within d at n e)), e)

  pub seek-on : (r : ℕ) → seek d (suc r) at ≡ seek d r (at + record_length n)
  unfolding seek
  seek-on r = rw (lt-ltb at (length d) (omega (arith, frame-within d at n e)), e)

-- what is found lies within the drawer, and has a head
pub record Within (d : List ℕ) (p l : ℕ) : Type 0 where
  pub headed : 4 ≤ l
  pub within : p + l ≤ length d

sought-on : (t : Bool) (o : Outcome) (next : ℕ → Found) {p l : ℕ} → cond t (if_framed o next) (lost 10) ≡ found p l
    → (n : ℕ) × (o ≡ answer n) × (next (record_length n) ≡ found p l)
sought-on true (answer n) next e = (n, refl, e)
sought-on true (refusal k) next e = absurd (let z : ◌≡◌ {A = ℕ} 0 1 = cc in omega arith)
sought-on false o next e = absurd (let z : ◌≡◌ {A = ℕ} 0 1 = cc in omega arith)

seek-within : (d : List ℕ) (r at p l : ℕ) → seek d r at ≡ found p l → Within d p l
unfolding seek
seek-within d zero at p l e =
    let (n, f, h) = sought-on (ltb at (length d)) (frame_says (drop at d)) (λ m. found at m) e in
    let a : at ≡ p = cc in
    let b : record_length n ≡ l = cc in
    record { headed = omega arith; within = omega (arith, frame-within d at n f) }
seek-within d (suc r) at p l e =
    let (n, f, h) = sought-on (ltb at (length d)) (frame_says (drop at d)) (λ m. seek d r (at + m)) e in
    seek-within d r (at + record_length n) p l h

-- ---- find

pub find-seek : (d : List ℕ) (r : ℕ) → length d ≤ most_bytes → r < most_records → find_says d r ≡ seek d r 0
unfolding find_says
find-seek d r h b = rw (le-ltb most_bytes (length d) h, lt-ltb r most_records b)

pub found_within : (d : List ℕ) (r p l : ℕ) → find_says d r ≡ found p l → Within d p l
unfolding find_says
found_within d r p l e = seek-within d r 0 p l (sought (ltb most_bytes (length d)) (ltb r most_records) e)
  where
    sought : (s t : Bool) {o : Found} → cond s (lost 12) (cond t o (lost 10)) ≡ found p l → o ≡ found p l
    sought true t h = absurd (let z : ◌≡◌ {A = ℕ} 0 1 = cc in omega arith)
    sought false true h = h
    sought false false h = absurd (let z : ◌≡◌ {A = ℕ} 0 1 = cc in omega arith)

-- ---- the look

-- the document's three sentences, the second of them by its two ways: own find says 10, or its n is 0
module _ (d s : List ℕ) (r : ℕ) where
  pub look_own : {p l : ℕ} → find_says d r ≡ found p l → 0 < entries (take l (drop p d)) → look_says d s r ≡ part own p l
  unfolding look_says
  look_own {p} {l} e h = rw (e, lt-ltb 0 (entries (take l (drop p d))) h)

  pub look-empty : {p l : ℕ} → find_says d r ≡ found p l → entries (take l (drop p d)) ≤ 0 → look_says d s r ≡ in_shared (find_says s r)
  unfolding look_says
  look-empty {p} {l} e h = rw (e, le-ltb 0 (entries (take l (drop p d))) h)

  pub look_none : {k : ℕ} → find_says d r ≡ lost k → eqb k 10 ≡ true → look_says d s r ≡ in_shared (find_says s r)
  unfolding look_says
  look_none e h = rw (e, h)

  pub look-refused : {k : ℕ} → find_says d r ≡ lost k → eqb k 10 ≡ false → look_says d s r ≡ nothing own k
  unfolding look_says
  look-refused e h = rw (e, h)

-- place and length, or the refusal, are what find says in the drawer that the look names
abbrev pub Found_in : List ℕ → List ℕ → ℕ → Look → Type 0
Found_in d s r (part own p l) = find_says d r ≡ found p l
Found_in d s r (part shared p l) = find_says s r ≡ found p l
Found_in d s r (nothing own k) = find_says d r ≡ lost k
Found_in d s r (nothing shared k) = find_says s r ≡ lost k

pub look-found : (d s : List ℕ) (r : ℕ) → Found_in d s r (look_says d s r)
unfolding look_says
look-found d s r = by (find_says d r) refl
  where
    one_of : (t : Bool) (x y : Look) → Found_in d s r x → Found_in d s r y → Found_in d s r (cond t x y)
    one_of true x y a b = a
    one_of false x y a b = b

    in-shared : (g : Found) → find_says s r ≡ g → Found_in d s r (in_shared g)
    in-shared (found p l) e = e
    in-shared (lost k) e = e

    by : (f : Found) → find_says d r ≡ f → Found_in d s r (own_first_of d f (in_shared (find_says s r)))
    by (found p l) e =
        one_of (ltb 0 (entries (take l (drop p d)))) (part own p l) (in_shared (find_says s r)) e (in-shared (find_says s r) refl)
    by (lost k) e = one_of (eqb k 10) (in_shared (find_says s r)) (nothing own k) (in-shared (find_says s r) refl) e

-- ---- the count of records

-- k and the number of whole framed records from this place on; `records_in` is this from the start
abbrev pub records : List ℕ → ℕ → ℕ → Outcome
records d at k = records_from (length d) d at k

counted_end : (f : ℕ) (d : List ℕ) (at k : ℕ) → length d ≤ at → records_from f d at k ≡ answer k
unfolding records_from
counted_end zero d at k h = rw (le-ltb at (length d) h)
counted_end (suc f) d at k h = rw (le-ltb at (length d) h)

-- any count that is large enough does
enough : (f g : ℕ) (d : List ℕ) (at k : ℕ) → length d ≤ at + f → length d ≤ at + g → records_from f d at k ≡ records_from g d at k
unfolding records_from
enough zero g d at k a b = counted_end zero d at k (omega arith) ∙ sym (counted_end g d at k (omega arith))
enough (suc f) zero d at k a b = counted_end (suc f) d at k (omega arith) ∙ sym (counted_end zero d at k (omega arith))
enough (suc f) (suc g) d at k a b =
    ap (λ o. cond (ltb at (length d)) o (answer k))
    (by (frame_says (drop at d)) (λ n. enough f g d (at + record_length n) (k + 1) (omega arith) (omega arith)))
  where
    by : (o : Outcome) → ((n : ℕ) → records_from f d (at + record_length n) (k + 1) ≡ records_from g d (at + record_length n) (k + 1))
        → one_more o (λ l. records_from f d (at + l) (k + 1)) ≡ one_more o (λ l. records_from g d (at + l) (k + 1))
    by (answer n) same = same n
    by (refusal x) same = refl

pub records_end : (d : List ℕ) (at k : ℕ) → length d ≤ at → records d at k ≡ answer k
records_end d at k h = counted_end (length d) d at k h

pub records_fault : (d : List ℕ) (at k x : ℕ) → at < length d → frame_says (drop at d) ≡ refusal x → records d at k ≡ refusal 13
unfolding records_from
records_fault d at k x h e =
    let f : length d ≡ suc (length d - 1) = omega arith in
    ap (λ m. records_from m d at k) f ∙ rw (lt-ltb at (length d) h, e)

pub records-more : (d : List ℕ) (at k n : ℕ) → frame_says (drop at d) ≡ answer n → records d at k ≡ records d (at + record_length n) (k + 1)
unfolding records_from
records-more d at k n e =
    let h : at + record_length n ≤ length d = frame-within d at n e in
    let f : length d ≡ suc (length d - 1) = omega arith in
    ap (λ m. records_from m d at k) f
    ∙ rw (lt-ltb at (length d) (omega arith), e) (enough (length d - 1) (length d) d (at + record_length n) (k + 1) (omega arith) (omega arith))

-- ---- whole framed records

-- from this place to its end d is k whole framed records
pub data Records (d : List ℕ) : ℕ → ℕ → Type 0 where
  none : (at : ℕ) → at ≡ length d → Records d at 0
  more : (at n k : ℕ) → frame_says (drop at d) ≡ answer n → Records d (at + record_length n) k → Records d at (suc k)

pub records-count : {d : List ℕ} {at k : ℕ} → Records d at k → (j : ℕ) → records d at j ≡ answer (j + k)
records-count {d} (none at e) j = records_end d at j (omega arith) ∙ ap answer (omega arith)
records-count {d} (more at n k e r) j =
    records-more d at j n e ∙ records-count r (j + 1) ∙ ap answer (omega arith)

-- k is j and as many whole framed records as there are from this place on
abbrev Counted : List ℕ → ℕ → ℕ → ℕ → Type 0
Counted d at j k = (m : ℕ) × (k ≡ j + m) × Records d at m

counted : (f : ℕ) (d : List ℕ) (at j k : ℕ) → at ≤ length d → records_from f d at j ≡ answer k → Counted d at j k
unfolding records_from
counted zero d at j k h e =
    let (past, says) = not_refused (ltb at (length d)) 13 e in
    let same : j ≡ k = cc in
    (0, omega arith, none at (omega (arith, ltb-false at (length d) past)))
counted (suc f) d at j k h e =
    by (ltb at (length d)) refl (frame_says (drop at d)) refl e
    (λ n q. counted f d (at + record_length n) (j + 1) k (frame-within d at n q))
  where
    by : (t : Bool) → ltb at (length d) ≡ t → (o : Outcome) → frame_says (drop at d) ≡ o
        → cond t (one_more o (λ l. records_from f d (at + l) (j + 1))) (answer j) ≡ answer k
        → ((n : ℕ) → frame_says (drop at d) ≡ answer n → records_from f d (at + record_length n) (j + 1) ≡ answer k → Counted d (at + record_length n) (j + 1) k)
        → Counted d at j k
    by true b (answer n) q x next =
        let (m, s, r) = next n q x in
        (suc m, omega arith, more at n m q r)
    by true b (refusal i) q x next = absurd (let z : ◌≡◌ {A = ℕ} 0 1 = cc in omega arith)
    by false b o q x next =
        let same : j ≡ k = cc in
        (0, omega arith, none at (omega (arith, ltb-false at (length d) b)))

pub records_are : (d : List ℕ) (k : ℕ) → records_in d ≡ answer k → Records d 0 k
unfolding records_in
records_are d k e =
    let (m, s, r) = counted (length d) d 0 0 k (omega arith) e in
    let same : k ≡ m = omega arith in
    rw same r

-- ---- bytes behind

-- a frame looks at no byte past the record
frame_behind : (r s : List ℕ) (n : ℕ) → frame_says r ≡ answer n → frame_says (r ++ s) ≡ answer n
unfolding entries
frame_behind r s n e =
    let f = says_framed r n e in
    let long : record_length n ≤ length r = f.long in
    framed_says (record {
      mark_first = get_or-append r s 0 0 (omega arith) ∙ f.mark_first;
      mark_second = get_or-append r s 0 1 (omega arith) ∙ f.mark_second;
      says = rw (get_or-append r s 0 2 (omega arith), get_or-append r s 0 3 (omega arith)) f.says;
      few = f.few;
      long = omega (arith, length-append r s);
    })

module _ (x y : List ℕ) where
  framed_behind : (at n : ℕ) → frame_says (drop at x) ≡ answer n → frame_says (drop at (x ++ y)) ≡ answer n
  framed_behind at n e =
      rw (drop-append-le at x y (omega (arith, frame-within x at n e))) (frame_behind (drop at x) y n e)

  -- a find of a record in front goes as before
  pub seek_before : {at k : ℕ} → Records x at k → (r : ℕ) → r < k → seek (x ++ y) r at ≡ seek x r at
  seek_before (none at e) r h = absurd (omega arith)
  seek_before (more at n k e s) zero h = seek_here (x ++ y) at n (framed_behind at n e) ∙ sym (seek_here x at n e)
  seek_before (more at n k e s) (suc r) h =
      seek-on (x ++ y) at n (framed_behind at n e) r ∙ seek_before s r (omega arith) ∙ sym (seek-on x at n e r)

  -- a record put behind is one more, and is found there
  module _ (n : ℕ) (f : frame_says y ≡ answer n) where
    at-end : frame_says (drop (length x) (x ++ y)) ≡ answer n
    at-end = rw drop-append_seam f

    pub seek-behind : {at k : ℕ} → Records x at k → seek (x ++ y) k at ≡ found (length x) (record_length n)
    seek-behind (none at e) = rw e (seek_here (x ++ y) (length x) n at-end)
    seek-behind (more at m k e s) = seek-on (x ++ y) at m (framed_behind at m e) k ∙ seek-behind s

    pub records-behind : length y ≡ record_length n → {at k : ℕ} → Records x at k → Records (x ++ y) at (suc k)
    records-behind l (none at e) =
        more at n 0 (rw e at-end) (none (at + record_length n) (omega (arith, length-append x y)))
    records-behind l (more at m k e s) = more at m (suc k) (framed_behind at m e) (records-behind l s)

-- ---- append

-- a build that answers has room for the record
pub record Fits (c : List ℕ) (o l : ℕ) : Type 0 where
  pub few : length c ≤ most
  pub size : record_length (length c) ≡ l
  pub room : l ≤ o

pub build_answers : (c : List ℕ) (w o : ℕ) {l : ℕ} → build_says c w o ≡ answer l → Fits c o l
unfolding build_says
build_answers c w o {l} e =
    let (few, f) = not_refused (ltb most (length c)) 1 e in
    let (room, g) = not_refused (ltb o (record_length (length c))) 2 f in
    let (work, h) = not_refused (ltb w (length c)) 3 g in
    let size : record_length (length c) ≡ l = cc in
    record { few = ltb-false most (length c) few; size = size; room = omega (arith, ltb-false o (record_length (length c)) room) }

-- no check on the buffer and its k records refuses
pub record Ready (b : List ℕ) (u k : ℕ) : Type 0 where
  pub short : length b ≤ most_bytes
  pub used : u ≤ length b
  pub whole : records_in (take u b) ≡ answer k
  pub room : k < most_records

-- so build decides
pub append_builds : (b : List ℕ) (u : ℕ) (c : List ℕ) (w : ℕ) {k : ℕ} → Ready b u k
    → append_says b u c w ≡ unless_refused (build_says c w (length b - u)) (λ l. answer (u + l))
unfolding append_says
append_builds b u c w {k} r =
    rw (le-ltb most_bytes (length b) r.short, le-ltb (length b) u r.used, r.whole, lt-ltb k most_records r.room)

-- and only so does it answer
pub append_answers : (b : List ℕ) (u : ℕ) (c : List ℕ) (w : ℕ) {v : ℕ} → append_says b u c w ≡ answer v
    → (k : ℕ) × Ready b u k × (l : ℕ) × (build_says c w (length b - u) ≡ answer l) × (u + l ≡ v)
unfolding append_says
append_answers b u c w e =
    let (short, f) = not_refused (ltb most_bytes (length b)) 12 e in
    let (used, g) = not_refused (ltb (length b) u) 13 f in
    let (k, whole, h) = went_on (records_in (take u b)) g in
    let (room, i) = passed (ltb k most_records) 14 h in
    let (l, says, j) = went_on (build_says c w (length b - u)) i in
    (k, record { short = ltb-false most_bytes (length b) short; used = ltb-false (length b) u used; whole = whole; room = ltb-true k most_records room }, l, says, cc)
