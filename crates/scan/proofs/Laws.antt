-- Laws of the scan: one stretch after another, and how far a stretch can carry a state.
-- Assumes nothing.
use mathlib.Core.Path.{◌≡◌, refl, ap, sym, subst⁻¹, ◌∙◌}
use Prim.Native.Nat.{ℕ, zero, suc, pred, min, ◌+◌, ◌-◌, ◌*◌, ◌≤◌, ◌<◌}
use native.Mathlib.Nat.{add-zero, add-suc, suc-add, zero-add, le_refl, le_trans}
use native.Mathlib.Omega.{arith}
use mathlib.Core.Bool.{Bool, true, false, cond}
use mathlib.Core.List.{List, [], ◌∷◌, ◌++◌, append-nil, append_assoc}
use borrow.Author.Tests.{ltb-true, ltb-false, le-ltb}
use lib.Dec.{ltb}
use native.Mathlib.Numerals.{add-one}
use lib.ListN.{length, take, drop, get_or, replicate, length-take, length-drop}
use lib.Seq.{take_all, take-suc, take-add, drop-drop, length-take-le}
use Rattle.rules.specs.Bytes.{low_bits, all_bits}
use Rattle.rules.proofs.Bytes.{all_bits-length, all_bits-append}
use Rattle.rules.specs.Shape.{Paren, opening, closing}
use Rattle.rules.specs.Excess.{openings, closings, excesses, list_of}
use Rattle.rules.specs.Summary.{none, smallest_of}
use Rattle.rules.proofs.Excess.{closings-append, counts-length, excesses-opening, excesses-closing}
use Rattle.scan.specs.declared.Scan.{Scan}
use Rattle.scan.specs.Scan.{seen, step_of, scan_of, Ready}

pub scan-append : (st : Scan) (p : ℕ) (s t : List Paren) → scan_of st p (s ++ t) ≡ scan_of (scan_of st p s) (p + length s) t
unfolding scan_of
scan-append st p [] t = rw add-zero
scan-append st p (q ∷ s) t = rw (scan-append (step_of st p q) (suc p) s t, suc-add p (length s), ← add-suc p (length s))

seen_below : (st : Scan) (p e : ℕ) → (seen st p e).smallest ≤ st.smallest
seen_below st p e = by (ltb e st.smallest) refl
  where
    by : (t : Bool) → ltb e st.smallest ≡ t → cond (ltb e st.smallest) e st.smallest ≤ st.smallest
    by true h = let l = ltb-true e st.smallest h in rw h (omega arith)
    by false h = rw h (le_refl _)

-- after one parenthesis one fewer can be read
ready-step : (st : Scan) (p k : ℕ) (q : Paren) → Ready st (suc k) → Ready (step_of st p q) k
unfolding step_of
ready-step st p k opening ready =
    let r = ready.room in
    let h = ready.high in
    record { room = omega arith; high = omega arith; bound = le_trans (seen_below st p (suc st.excess)) ready.bound }
ready-step st p k closing ready =
    let r = ready.room in
    let h = ready.high in
    let room : k ≤ pred st.excess = omega arith in
    let high : pred st.excess + k ≤ 1048576 = omega arith in
    record { room = room; high = high; bound = le_trans (seen_below st p (pred st.excess)) ready.bound }

pub ready_after : (st : Scan) (p k : ℕ) (s : List Paren) → Ready st (length s + k) → Ready (scan_of st p s) k
unfolding scan_of
ready_after st p k [] ready = rw (zero-add k) at ready
ready_after st p k (q ∷ s) ready =
    ready_after (step_of st p q) (suc p) k s (ready-step st p (length s + k) q (rw (suc-add (length s) k) at ready))

-- what is ready for more is ready for fewer
pub ready-fewer : (st : Scan) (j k : ℕ) → j ≤ k → Ready st k → Ready st j
ready-fewer st j k h ready =
    let r = ready.room in
    let u = ready.high in
    record { room = omega arith; high = omega arith; bound = ready.bound }

pub ready_same : {x y : Scan} (k : ℕ) → x ≡ y → Ready y k → Ready x k
ready_same k e r = subst⁻¹ (λ (st : Scan). Ready st k) e r

-- the smallest never rises
pub scan_below : (st : Scan) (p : ℕ) (s : List Paren) → (scan_of st p s).smallest ≤ st.smallest
unfolding scan_of step_of
scan_below st p [] = le_refl _
scan_below st p (opening ∷ s) =
    le_trans (scan_below (step_of st p opening) (suc p) s) (seen_below st p (suc st.excess))
scan_below st p (closing ∷ s) =
    le_trans (scan_below (step_of st p closing) (suc p) s) (seen_below st p (pred st.excess))

-- a parenthesis that does not go below the smallest moves the excess and nothing else
pub step-opening : (e m q p : ℕ) → m ≤ suc e
    → step_of (record { excess = e; smallest = m; place = q }) p opening ≡ record { excess = suc e; smallest = m; place = q }
unfolding step_of
step-opening e m q p h = rw (le-ltb (suc e) m h)

pub step-closing : (e m q p : ℕ) → m ≤ e
    → step_of (record { excess = suc e; smallest = m; place = q }) p closing ≡ record { excess = e; smallest = m; place = q }
unfolding step_of
step-closing e m q p h = rw (le-ltb e m h)

-- openings alone, behind a smallest that is not above the excess
pub scan-openings : (e m q p u : ℕ) → m ≤ e
    → scan_of (record { excess = e; smallest = m; place = q }) p (replicate u opening) ≡ record { excess = e + u; smallest = m; place = q }
unfolding scan_of
scan-openings e m q p zero h = rw add-zero
scan-openings e m q p (suc u) h =
    ap (λ (st : Scan). scan_of st (suc p) (replicate u opening)) (step-opening e m q p (omega arith))
    ∙ rw (add-suc e u, ← suc-add e u) (scan-openings (suc e) m q (suc p) u (omega arith))

-- from far enough above the smallest, only the closings count
pub scan_far : (e m q p : ℕ) (s : List Paren) → m + length s ≤ e
    → scan_of (record { excess = e; smallest = m; place = q }) p s ≡ record { excess = e + length s - 2 * closings s; smallest = m; place = q }
unfolding scan_of closings
scan_far e m q p [] h = let x : e + 0 - 2 * closings [] ≡ e = omega arith in rw x
scan_far e m q p (opening ∷ s) h =
    let x : suc e + length s - 2 * closings s ≡ e + suc (length s) - 2 * closings s = omega arith in
    ap (λ (st : Scan). scan_of st (suc p) s) (step-opening e m q p (omega arith))
    ∙ scan_far (suc e) m q (suc p) s (omega arith)
    ∙ rw x
scan_far zero m q p (closing ∷ s) h = absurd (omega arith)
scan_far (suc e) m q p (closing ∷ s) h =
    let x : e + length s - 2 * closings s ≡ suc e + suc (length s) - 2 * suc (closings s) = omega arith in
    ap (λ (st : Scan). scan_of st (suc p) s) (step-closing e m q p (omega arith))
    ∙ scan_far e m q (suc p) s (omega arith)
    ∙ rw x

pub seen_least : (st : Scan) (p e : ℕ) → (seen st p e).smallest ≤ e
seen_least st p e = by (ltb e st.smallest) refl
  where
    by : (t : Bool) → ltb e st.smallest ≡ t → cond (ltb e st.smallest) e st.smallest ≤ e
    by true h = rw h (le_refl _)
    by false h = rw h (ltb-false e st.smallest h)

pub scan-least : (st : Scan) (p : ℕ) (s : List Paren) → st.smallest ≤ st.excess → (scan_of st p s).smallest ≤ (scan_of st p s).excess
unfolding scan_of step_of
scan-least st p [] h = h
scan-least st p (opening ∷ s) h = scan-least (step_of st p opening) (suc p) s (seen_least st p (suc st.excess))
scan-least st p (closing ∷ s) h = scan-least (step_of st p closing) (suc p) s (seen_least st p (pred st.excess))

-- after any parenthesis the smallest is not above the excess
pub some_least : (st : Scan) (p : ℕ) (s : List Paren) → 0 < length s → (scan_of st p s).smallest ≤ (scan_of st p s).excess
unfolding scan_of step_of
some_least st p [] h = absurd (omega arith)
some_least st p (opening ∷ s) h = scan-least (step_of st p opening) (suc p) s (seen_least st p (suc st.excess))
some_least st p (closing ∷ s) h = scan-least (step_of st p closing) (suc p) s (seen_least st p (pred st.excess))

-- ---- by the excesses

pub scan-excess : (st : Scan) (p : ℕ) (s : List Paren) → length s ≤ st.excess → (scan_of st p s).excess + closings s ≡ st.excess + openings s
unfolding scan_of step_of openings closings
scan-excess st p [] h = refl
scan-excess st p (opening ∷ s) h =
    let ih = scan-excess (step_of st p opening) (suc p) s (let l : length s ≤ suc st.excess = omega arith in l) in
    omega arith
scan-excess st p (closing ∷ s) h =
    let room : length s ≤ pred st.excess = omega arith in
    let ih : (scan_of (step_of st p closing) (suc p) s).excess + closings s ≡ pred st.excess + openings s = scan-excess (step_of st p closing) (suc p) s room in
    omega arith

smaller : (g e m : ℕ) → cond (ltb (g + e) (g + m)) (g + e) (g + m) ≡ g + min e m
smaller g e m = by (ltb (g + e) (g + m)) refl
  where
    by : (t : Bool) → ltb (g + e) (g + m) ≡ t → cond t (g + e) (g + m) ≡ g + min e m
    by true h = omega (arith, ltb-true (g + e) (g + m) h)
    by false h = omega (arith, ltb-false (g + e) (g + m) h)

no-excess : (e : ℕ) → smallest_of (excesses e []) ≡ none
unfolding excesses list_of smallest_of
no-excess e = refl

-- a state counted from the ground g
abbrev pub grounded : ℕ → ℕ → ℕ → ℕ → Scan
grounded g e m q = record { excess = g + e; smallest = g + m; place = q }

-- where no excess is below the ground, the smallest is the smaller of the one before and the smallest of the excesses
pub scan-smallest : (g e m q p : ℕ) (s : List Paren) → m ≤ none → ((b : ℕ) → closings (take b s) ≤ e + openings (take b s))
    → (scan_of (grounded g e m q) p s).smallest ≡ g + min m (smallest_of (excesses e s))
unfolding scan_of step_of openings closings smallest_of
scan-smallest g e m q p [] few above = omega (arith, no-excess e)
scan-smallest g e m q p (opening ∷ s) few above =
    let q' = cond (ltb (g + suc e) (g + m)) p q in
    let on : step_of (grounded g e m q) p opening ≡ grounded g (suc e) (min (suc e) m) q' = rw (← add-suc g e, smaller g (suc e) m) in
    let all : smallest_of (excesses e (opening ∷ s)) ≡ min (suc e) (smallest_of (excesses (suc e) s)) = ap smallest_of (excesses-opening e s) in
    let ih = scan-smallest g (suc e) (min (suc e) m) q' (suc p) s (omega arith) (λ b. omega (arith, above (suc b))) in
    ap (λ (st : Scan). (scan_of st (suc p) s).smallest) on ∙ omega arith
scan-smallest g zero m q p (closing ∷ s) few above = absurd (let h : 1 ≤ 0 = above 1 in omega arith)
scan-smallest g (suc e) m q p (closing ∷ s) few above =
    let q' = cond (ltb (g + e) (g + m)) p q in
    let down : pred (g + suc e) ≡ g + e = omega arith in
    let on : step_of (grounded g (suc e) m q) p closing ≡ grounded g e (min e m) q' = rw (down, smaller g e m) in
    let all : smallest_of (excesses (suc e) (closing ∷ s)) ≡ min e (smallest_of (excesses e s)) = ap smallest_of (excesses-closing e s) in
    let ih = scan-smallest g e (min e m) q' (suc p) s (omega arith) (λ b. omega (arith, above (suc b))) in
    ap (λ (st : Scan). (scan_of st (suc p) s).smallest) on ∙ omega arith

-- ---- byte by byte

-- the state after k of the bytes
unfoldable pub scanned : Scan → ℕ → List ℕ → ℕ → Scan
scanned st at bs k = scan_of st at (all_bits (take k bs))

pub scanned_none : (st : Scan) (at : ℕ) (bs : List ℕ) → st ≡ scanned st at bs 0
unfolding scanned all_bits scan_of
scanned_none st at bs = refl

pub scanned_all : (st : Scan) (at k : ℕ) (bs : List ℕ) → length bs ≤ k → scanned st at bs k ≡ scan_of st at (all_bits bs)
unfolding scanned
scanned_all st at k bs h = rw (take_all k bs h)

pub scanned-ready : (st : Scan) (at k j : ℕ) (bs : List ℕ) → k + j ≤ length bs → Ready st (8 * length bs) → Ready (scanned st at bs k) (8 * j)
unfolding scanned
scanned-ready st at k j bs h ready =
    ready_after st at (8 * j) (all_bits (take k bs))
    (ready-fewer st _ (8 * length bs) (omega (arith, all_bits-length (take k bs), length-take-le k bs (omega arith))) ready)

pub scanned-on : (st : Scan) (at k j : ℕ) (bs : List ℕ) → k ≤ length bs
    → scan_of (scanned st at bs k) (at + 8 * k) (all_bits (take j (drop k bs))) ≡ scanned st at bs (k + j)
unfolding scanned
scanned-on st at k j bs h =
    let e : length (all_bits (take k bs)) ≡ 8 * k = rw (length-take-le k bs h) at (all_bits-length (take k bs)) in
    rw (take-add k j bs, all_bits-append, scan-append, e)

pub scanned-more : (st : Scan) (at k : ℕ) (bs : List ℕ) → k < length bs
    → scan_of (scanned st at bs k) (at + 8 * k) (low_bits 8 (get_or bs k 0)) ≡ scanned st at bs (k + 1)
unfolding scanned all_bits
scanned-more st at k bs h =
    let e : length (all_bits (take k bs)) ≡ 8 * k = rw (length-take-le k bs (omega arith)) at (all_bits-length (take k bs)) in
    rw (add-one k, take-suc bs k 0 h, all_bits-append, one (get_or bs k 0), scan-append, e)
  where
    one : (b : ℕ) → all_bits (b ∷ []) ≡ low_bits 8 b
    one b = append-nil (low_bits 8 b)

-- ---- bytes that are counted

-- j of them from number k on
module _ (k j : ℕ) (bs : List ℕ) (h : k + j ≤ length bs) where
  part-length : length (all_bits (take j (drop k bs))) ≡ 8 * j
  part-length =
      let l : length (take j (drop k bs)) ≡ j = simp (length-take, length-drop) (omega arith) in
      rw (all_bits-length (take j (drop k bs)), l)

  pub few_close : closings (all_bits (take j (drop k bs))) ≤ 8 * j
  few_close = omega (arith, counts-length (all_bits (take j (drop k bs))), part-length)

  pub scan-counted : (st : Scan) (p c : ℕ) → c ≡ closings (all_bits (take j (drop k bs))) → st.smallest + 8 * j ≤ st.excess
      → record { excess = st.excess + 8 * j - 2 * c; smallest = st.smallest; place = st.place } ≡ scan_of st p (all_bits (take j (drop k bs)))
  scan-counted st p c e far =
      let l = part-length in
      rw (e, ← l) (sym (scan_far st.excess st.smallest st.place p (all_bits (take j (drop k bs))) (omega (arith, l))))

-- the closings of two parts, one behind the other
pub both_close : (k i j : ℕ) (bs : List ℕ) → closings (all_bits (take (i + j) (drop k bs))) ≡ closings (all_bits (take i (drop k bs))) + closings (all_bits (take j (drop (k + i) bs)))
both_close k i j bs = rw (take-add i j (drop k bs), drop-drop, all_bits-append, closings-append)

-- bytes, and one more byte whose bits are those of l and then openings
pub scan-opened : (st x y : Scan) (p : ℕ) (bs : List ℕ) (b u : ℕ) (l : List Paren) → x ≡ scan_of st p (all_bits bs)
    → low_bits 8 b ≡ l ++ replicate u opening → y ≡ scan_of x (p + 8 * length bs) (low_bits 8 b)
    → y ≡ scan_of st p ((all_bits bs ++ l) ++ replicate u opening)
scan-opened st x y p bs b u l e f g =
    g ∙ rw (e, f, ← all_bits-length bs, append_assoc) (sym (scan-append st p (all_bits bs) (l ++ replicate u opening)))
