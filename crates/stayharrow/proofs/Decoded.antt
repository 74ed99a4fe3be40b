-- The number loses nothing, proved: whatever an entry point says has room in it, and is read back from it.
-- Assumes nothing.
use mathlib.Core.Path.{◌≡◌, refl, sym, ap, ◌∙◌}
use Prim.Native.Nat.{ℕ, zero, suc, ◌+◌, ◌-◌, ◌*◌, ◌/◌, ◌%◌, ◌^◌, ◌≤◌, ◌<◌}
use native.Mathlib.Omega.{arith}
use mathlib.Core.Bool.{Bool, true, false, cond}
use mathlib.Core.List.{List}
use borrow.Author.Tests.{lt-ltb, le-ltb, ltb-true, ltb-false}
use lib.Dec.{ltb, eqb}
use lib.ListN.{length, take, drop, get_or}
use Rattle.rules.specs.Excess.{openings, balanced, entry_between}
use Rattle.rules.specs.Bytes.{most, record_length, entries, parens, unused}
use Rattle.rules.specs.Refusal.{Outcome, answer, refusal, unless_refused}
use Rattle.rules.specs.Order.{frame_says, check_says, build_says, ask_says, stand_in_says}
use Rattle.rules.specs.Summary.{slots, fill_says, quick_checks, Allowed, QuickSays}
use Rattle.rules.specs.Drawer.{most_bytes, most_records, own, shared, Found, found, lost, if_framed, seek, find_says, in_shared, own_first_of, look_says, Whence, stands, refused_by, whence, which_says, one_more, records_from, records_in, append_says}
use Rattle.rules.specs.Window.{window_says, kept_bytes, kept_first, kept_last, window_ask_says, through_says}
use Rattle.rules.proofs.Checked.{not_refused, passed, went_on}
use Rattle.rules.proofs.Drawer.{frame-within, build_answers}
use Rattle.window.proofs.Windows.{asked-within}
use Rattle.stayharrow.specs.Coded.{refused, coded, coded_found, coded_whence, accepted}
use Rattle.stayharrow.specs.Decoded.{decoded, decoded_found, decoded_whence, Listed, Fits, FitsFound, FitsWhence, ReadsBack, Once, HasRoom}

-- ---- read back

outcome-back : (o : Outcome) → Fits o → decoded (coded o) ≡ o
outcome-back (answer v) h = rw (lt-ltb v (2 ^ 63) h)
outcome-back (refusal k) h =
    let low : refused 0 0 k % 2 ^ 8 ≡ k = omega arith in rw (le-ltb (refused 0 0 k) (2 ^ 63) (omega arith), low)

found_back : (f : Found) → FitsFound f → decoded_found (coded_found f) ≡ f
found_back (found p l) h =
    let x = p * 2 ^ 32 + l in
    let high : x / 2 ^ 32 ≡ p = omega arith in
    let low : x % 2 ^ 32 ≡ l = omega arith in
    rw (lt-ltb x (2 ^ 63) (omega arith), high, low)
found_back (lost k) h =
    let low : refused 0 0 k % 2 ^ 8 ≡ k = omega arith in rw (le-ltb (refused 0 0 k) (2 ^ 63) (omega arith), low)

whence-back : (w : Whence) → FitsWhence w → decoded_whence (coded_whence w) ≡ w
whence-back (stands own) h = refl
whence-back (stands shared) h = refl
whence-back (refused_by own k) h =
    let low : refused 0 0 k % 2 ^ 8 ≡ k = omega arith in
    let high : refused 0 0 k / 2 ^ 40 ≡ 2 ^ 23 = omega arith in
    rw (le-ltb (refused 0 0 k) (2 ^ 63) (omega arith), low, high)
whence-back (refused_by shared k) h =
    let low : refused 1 0 k % 2 ^ 8 ≡ k = omega arith in
    let high : refused 1 0 k / 2 ^ 40 ≡ 2 ^ 23 + 1 = omega arith in
    rw (le-ltb (refused 1 0 k) (2 ^ 63) (omega arith), low, high)

pub reads_back : ReadsBack
reads_back = record { outcome = outcome-back; found = found_back; whence = whence-back }

pub once : Once
once =
    record {
      outcome = λ o p h g e. sym (outcome-back o h) ∙ ap decoded e ∙ outcome-back p g;
      found = λ o p h g e. sym (found_back o h) ∙ ap decoded_found e ∙ found_back p g;
      whence = λ o p h g e. sym (whence-back o h) ∙ ap decoded_whence e ∙ whence-back p g;
    }

-- ---- behind a test, and behind checks that say a number themselves

test : {A : Type 0} (P : A → Type 0) (b : Bool) {x y : A} → (b ≡ true → P x) → (b ≡ false → P y) → P (cond b x y)
test P true f g = f refl
test P false f g = g refl

on : (P : Outcome → Type 0) (o : Outcome) {next : ℕ → Outcome} → ((k : ℕ) → o ≡ refusal k → P (refusal k)) → ((v : ℕ) → o ≡ answer v → P (next v)) → P (unless_refused o next)
on P (answer v) f g = g v refl
on P (refusal k) f g = f k refl

-- of what has room, the answer and the refusal
answered : (o : Outcome) → Fits o → (v : ℕ) → o ≡ answer v → v < 2 ^ 63
answered o h v e = rw e at h

passed_on : (o : Outcome) → Fits o → (k : ℕ) → o ≡ refusal k → Listed k
passed_on o h k e = rw e at h

listed : (k : ℕ) → ltb 0 k ≡ true → ltb k 15 ≡ true → Listed k
listed k h g = (ltb-true 0 k h, omega (arith, ltb-true k 15 g))

accepts : (o : Outcome) → Fits o → Fits (accepted o)
accepts (answer v) h = omega arith
accepts (refusal k) h = h

-- ---- records

frame_fits : (r : List ℕ) → Fits (frame_says r)
unfolding frame_says
frame_fits r =
    test Fits (ltb (length r) 4) (λ _. listed 5 refl refl)
    (λ _. test Fits (eqb (get_or r 0 0) 0x52)
    (λ _. test Fits (eqb (get_or r 1 0) 0x4D)
    (λ _. test Fits (ltb most (entries r)) (λ _. listed 1 refl refl)
    (λ few. test Fits (ltb (length r) (record_length (entries r))) (λ _. listed 5 refl refl) (λ _. omega (arith, ltb-false most (entries r) few))))
    (λ _. listed 4 refl refl))
    (λ _. listed 4 refl refl))

check_fits : (r : List ℕ) → Fits (check_says r)
unfolding check_says
check_fits r =
    on Fits (frame_says r) (passed_on (frame_says r) (frame_fits r))
    (λ n e. test Fits (ltb (record_length n) (length r)) (λ _. listed 11 refl refl)
    (λ _. test Fits (ltb 0 (openings (unused n r))) (λ _. listed 6 refl refl)
    (λ _. test Fits (balanced (parens n r)) (λ _. answered (frame_says r) (frame_fits r) n e) (λ _. listed 7 refl refl))))

build_fits : (c : List ℕ) (w o : ℕ) → Fits (build_says c w o)
unfolding build_says
build_fits c w o =
    test Fits (ltb most (length c)) (λ _. listed 1 refl refl)
    (λ few. test Fits (ltb o (record_length (length c))) (λ _. listed 2 refl refl)
    (λ _. test Fits (ltb w (length c)) (λ _. listed 3 refl refl) (λ _. omega (arith, ltb-false most (length c) few))))

fill_fits : (r : List ℕ) (m : ℕ) → Fits (fill_says r m)
unfolding fill_says
fill_fits r m =
    on Fits (check_says r) (passed_on (check_says r) (check_fits r))
    (λ n e. test Fits (ltb m slots) (λ _. listed 3 refl refl) (λ _. answered (check_says r) (check_fits r) n e))

stand_in_fits : (r : List ℕ) (m : ℕ) → Fits (stand_in_says r m)
unfolding stand_in_says
stand_in_fits r m =
    on Fits (check_says r) (passed_on (check_says r) (check_fits r))
    (λ n e. test Fits (ltb m n) (λ _. listed 2 refl refl) (λ _. answered (check_says r) (check_fits r) n e))

-- an entry up to j, which is below n
ask_fits : (r : List ℕ) (i j : ℕ) → Fits (ask_says r i j)
unfolding ask_says
ask_fits r i j =
    on Fits (check_says r) (passed_on (check_says r) (check_fits r))
    (λ n e. test Fits (ltb j i) (λ _. listed 8 refl refl)
    (λ order. test Fits (ltb j n)
    (λ among.
    let says : ask_says r i j ≡ answer (entry_between (parens n r) i j) = rw (e, order, among) in
    let below : j < n = ltb-true j n among in
    let few : n < 2 ^ 63 = answered (check_says r) (check_fits r) n e in
    omega (arith, (asked-within r i j (entry_between (parens n r) i j) says).1))
    (λ _. listed 8 refl refl)))

-- the checks before a quick ask's answer: n above j
quick_fits : (r : List ℕ) (m i j : ℕ) → Fits (quick_checks r m i j)
unfolding quick_checks
quick_fits r m i j =
    on Fits (frame_says r) (passed_on (frame_says r) (frame_fits r))
    (λ n e. test Fits (ltb (record_length n) (length r)) (λ _. listed 11 refl refl)
    (λ _. test Fits (ltb m slots) (λ _. listed 3 refl refl)
    (λ _. test Fits (ltb j i) (λ _. listed 8 refl refl)
    (λ _. test Fits (ltb j n) (λ _. answered (frame_says r) (frame_fits r) n e) (λ _. listed 8 refl refl)))))

quick_below : (r : List ℕ) (m i j n : ℕ) → quick_checks r m i j ≡ answer n → j < n
unfolding quick_checks
quick_below r m i j n e =
    let (k, framed, on) = went_on (frame_says r) e in
    let a = not_refused (ltb (record_length k) (length r)) 11 on in
    let b = not_refused (ltb m slots) 3 a.1 in
    let c = not_refused (ltb j i) 8 b.1 in
    let d = passed (ltb j k) 8 c.1 in
    let same : k ≡ n = cc d.1 in
    omega (arith, ltb-true j k d.0)

allowed_fits : (i j : ℕ) (o : Outcome) → j < 2 ^ 63 → Allowed i j o → Fits o
allowed_fits i j (answer q) h a = omega arith
allowed_fits i j (refusal k) h a = rw a (listed 9 refl refl)

quick_ask_fits : (r t : List ℕ) (i j : ℕ) (o : Outcome) → QuickSays r t i j o → Fits o
quick_ask_fits r t i j o q = by (quick_checks r (length t) i j) refl
  where
    by : (c : Outcome) → quick_checks r (length t) i j ≡ c → Fits o
    by (answer n) e =
        let few : n < 2 ^ 63 = answered (quick_checks r (length t) i j) (quick_fits r (length t) i j) n e in
        let below : j < n = quick_below r (length t) i j n e in
        allowed_fits i j o (omega arith) (q.allowed n e)
    by (refusal k) e = rw (q.refused k e) (passed_on (quick_checks r (length t) i j) (quick_fits r (length t) i j) k e)

window_fits : (r : List ℕ) (f l : ℕ) → Fits (window_says r f l)
unfolding window_says
window_fits r f l =
    on Fits (check_says r) (passed_on (check_says r) (check_fits r))
    (λ n e. test Fits (ltb l f) (λ _. listed 8 refl refl)
    (λ _. test Fits (ltb l n) (λ _. answered (check_says r) (check_fits r) n e) (λ _. listed 8 refl refl)))

in_window_fits : (r : List ℕ) (f l i j : ℕ) → Fits (window_ask_says r f l i j)
unfolding window_ask_says
in_window_fits r f l i j =
    on Fits (ask_says r i j) (passed_on (ask_says r i j) (ask_fits r i j))
    (λ p e. test Fits (ltb i f) (λ _. listed 8 refl refl)
    (λ _. test Fits (ltb l j) (λ _. listed 8 refl refl) (λ _. answered (ask_says r i j) (ask_fits r i j) p e)))

through_fits : (r : List ℕ) (f l i j : ℕ) → Fits (through_says r f l i j)
unfolding through_says
through_fits r f l i j = in_window_fits (kept_bytes r f l) (kept_first r f l) (kept_last r f l) i j

-- ---- drawers

framed : (P : Found → Type 0) (o : Outcome) {next : ℕ → Found} → ((k : ℕ) → o ≡ refusal k → P (lost k)) → ((n l : ℕ) → o ≡ answer n → l ≡ record_length n → P (next l)) → P (if_framed o next)
framed P (answer n) f g = g n (record_length n) refl refl
framed P (refusal k) f g = f k refl

seek_fits : (d : List ℕ) (r at : ℕ) → length d ≤ most_bytes → FitsFound (seek d r at)
unfolding seek
seek_fits d zero at few =
    test FitsFound (ltb at (length d))
    (λ _. framed FitsFound (frame_says (drop at d)) (passed_on (frame_says (drop at d)) (frame_fits (drop at d)))
    (λ n l e h. (omega (arith, frame-within d at n e), omega (arith, frame-within d at n e))))
    (λ _. listed 10 refl refl)
seek_fits d (suc r) at few =
    test FitsFound (ltb at (length d))
    (λ _. framed FitsFound (frame_says (drop at d)) (passed_on (frame_says (drop at d)) (frame_fits (drop at d)))
    (λ n l e h. seek_fits d r (at + l) few))
    (λ _. listed 10 refl refl)

find_fits : (d : List ℕ) (r : ℕ) → FitsFound (find_says d r)
unfolding find_says
find_fits d r =
    test FitsFound (ltb most_bytes (length d)) (λ _. listed 12 refl refl)
    (λ few. test FitsFound (ltb r most_records) (λ _. seek_fits d r 0 (ltb-false most_bytes (length d) few)) (λ _. listed 10 refl refl))

shared_fits : (g : Found) → FitsFound g → FitsWhence (whence (in_shared g))
shared_fits (found p l) h = tt
shared_fits (lost k) h = h

own_fits : (d : List ℕ) (f g : Found) → FitsFound f → FitsFound g → FitsWhence (whence (own_first_of d f (in_shared g)))
own_fits d (found p l) g h k = test (λ x. FitsWhence (whence x)) (ltb 0 (entries (take l (drop p d)))) (λ _. tt) (λ _. shared_fits g k)
own_fits d (lost x) g h k = test (λ x. FitsWhence (whence x)) (eqb x 10) (λ _. shared_fits g k) (λ _. h)

which_fits : (d s : List ℕ) (r : ℕ) → FitsWhence (which_says d s r)
unfolding which_says look_says
which_fits d s r = own_fits d (find_says d r) (find_says s r) (find_fits d r) (find_fits s r)

-- the used bytes are refused with 13 alone
abbrev Thirteen : Outcome → Type 0
Thirteen (answer k) = Unit {0}
Thirteen (refusal k) = k ≡ 13

more : (P : Outcome → Type 0) (o : Outcome) {next : ℕ → Outcome} → P (refusal 13) → ((l : ℕ) → P (next l)) → P (one_more o next)
more P (answer n) f g = g (record_length n)
more P (refusal k) f g = f

records_refuse : (f : ℕ) (d : List ℕ) (at k : ℕ) → Thirteen (records_from f d at k)
unfolding records_from
records_refuse zero d at k = test Thirteen (ltb at (length d)) (λ _. refl) (λ _. tt)
records_refuse (suc f) d at k =
    test Thirteen (ltb at (length d)) (λ _. more Thirteen (frame_says (drop at d)) refl (λ l. records_refuse f d (at + l) (k + 1))) (λ _. tt)

thirteen : (o : Outcome) → Thirteen o → (k : ℕ) → o ≡ refusal k → Listed k
thirteen o h k e = let t : k ≡ 13 = rw e at h in rw t (listed 13 refl refl)

append_fits : (b : List ℕ) (u : ℕ) (c : List ℕ) (w : ℕ) → Fits (append_says b u c w)
unfolding append_says records_in
append_fits b u c w =
    test Fits (ltb most_bytes (length b)) (λ _. listed 12 refl refl)
    (λ few. test Fits (ltb (length b) u) (λ _. listed 13 refl refl)
    (λ used. on Fits (records_in (take u b)) (thirteen (records_in (take u b)) (records_refuse (length (take u b)) (take u b) 0 0))
    (λ k _. test Fits (ltb k most_records)
    (λ _. on Fits (build_says c w (length b - u)) (passed_on (build_says c w (length b - u)) (build_fits c w (length b - u)))
    (λ l e. omega (arith, (build_answers c w (length b - u) e).room, ltb-false most_bytes (length b) few, ltb-false (length b) u used)))
    (λ _. listed 14 refl refl))))

pub has_room : HasRoom
has_room =
    record {
      build = build_fits;
      check = λ r. accepts (check_says r) (check_fits r);
      fill = λ r m. accepts (fill_says r m) (fill_fits r m);
      ask = ask_fits;
      quick_ask = quick_ask_fits;
      standing_in = stand_in_fits;
      find = find_fits;
      which = which_fits;
      append = append_fits;
      window = λ r f l. accepts (window_says r f l) (window_fits r f l);
      window-ask = through_fits;
    }
