-- A row of the table serves any excess: reading eight parentheses one by one, and taking the row that was worked out from an excess of 8,
-- go in step. Assumes nothing.
use mathlib.Core.Path.{◌≡◌, refl, ap, ◌∙◌, sym}
use Prim.Native.Nat.{ℕ, suc, pred, ◌+◌, ◌-◌, ◌*◌, ◌/◌, ◌%◌, ◌≤◌, ◌<◌}
use native.Mathlib.Nat.{add-zero, add-suc}
use native.Mathlib.Omega.{arith}
use mathlib.Core.Bool.{Bool, true, false, cond, ◌&&◌}
use mathlib.Core.List.{List, [], ◌∷◌}
use borrow.Author.Tests.{lt-ltb, le-ltb, ltb-true, ltb-false}
use lib.Dec.{T, ltb, eqb, eqb→eq}
use lib.ListN.{length}
use Rattle.rules.specs.Shape.{Paren, opening, closing}
use Rattle.rules.specs.Column.{least, least_of}
use Rattle.rules.specs.Excess.{excess, excesses, openings, closings, list_of}
use Rattle.rules.specs.Bytes.{low_bits, paren}
use Rattle.rules.proofs.Every.{below_at, and_left, and_right}
use Rattle.scan.specs.declared.Scan.{Scan}
use Rattle.scan.specs.Rows.{total, lowest, first_lowest, cell}
use Rattle.scan.specs.Scan.{seen, step_of, scan_of, Ready}

-- what a scan in state st has seen after some parentheses from place p on, if these alone, from an excess of 8, lead to a
unfoldable pub joined : Scan → ℕ → Scan → Scan
joined st p a =
    let low = st.excess + a.smallest - 8 in
    record {
      excess = st.excess + a.excess - 8;
      smallest = cond (ltb low st.smallest) low st.smallest;
      place = cond (ltb low st.smallest) (p + a.place) st.place;
    }

module _ (st : Scan) (p : ℕ) (high : 8 ≤ st.excess) where
  -- one more excess, e counted from 8, at the k-th place from p on
  in_step : (a : Scan) (k e : ℕ) → seen (joined st p a) (p + k) (st.excess + e - 8) ≡ joined st p (seen a k e)
  unfolding joined
  in_step a k e = split (ltb e a.smallest) refl (ltb (st.excess + a.smallest - 8) st.smallest) refl
    where
      below : e < a.smallest → st.excess + e - 8 < st.excess + a.smallest - 8
      below h = omega arith

      above : a.smallest ≤ e → st.excess + a.smallest - 8 ≤ st.excess + e - 8
      above h = omega arith

      split : (t : Bool) → ltb e a.smallest ≡ t → (u : Bool) → ltb (st.excess + a.smallest - 8) st.smallest ≡ u
          → seen (joined st p a) (p + k) (st.excess + e - 8) ≡ joined st p (seen a k e)
      split true f true g =
          let h = below (ltb-true e a.smallest f) in
          let l = ltb-true (st.excess + a.smallest - 8) st.smallest g in
          simp (f, g, lt-ltb (st.excess + e - 8) (st.excess + a.smallest - 8) h, lt-ltb (st.excess + e - 8) st.smallest (omega arith))
      split true f false g = simp (f, g)
      split false f true g =
          simp (f, g, le-ltb (st.excess + e - 8) (st.excess + a.smallest - 8) (above (ltb-false e a.smallest f)))
      split false f false g =
          let h = above (ltb-false e a.smallest f) in
          let l = ltb-false (st.excess + a.smallest - 8) st.smallest g in
          simp (f, g, le-ltb (st.excess + e - 8) st.smallest (omega arith))

  joined_step : (a : Scan) (k : ℕ) (q : Paren) → 1 ≤ a.excess → step_of (joined st p a) (p + k) q ≡ joined st p (step_of a k q)
  unfolding joined step_of
  joined_step a k opening h =
      let e : suc (st.excess + a.excess - 8) ≡ st.excess + suc a.excess - 8 = omega arith in
      ap (λ (x : ℕ). seen (joined st p a) (p + k) x) e ∙ in_step a k (suc a.excess)
  joined_step a k closing h =
      let e : pred (st.excess + a.excess - 8) ≡ st.excess + pred a.excess - 8 = omega arith in
      ap (λ (x : ℕ). seen (joined st p a) (p + k) x) e ∙ in_step a k (pred a.excess)

  step_room : (a : Scan) (k m : ℕ) (q : Paren) → suc m ≤ a.excess → m ≤ (step_of a k q).excess
  unfolding step_of
  step_room a k m opening h = let l : m ≤ suc a.excess = omega arith in l
  step_room a k m closing h = let l : m ≤ pred a.excess = omega arith in l

  joined-scan : (a : Scan) (k : ℕ) (s : List Paren) → length s ≤ a.excess → scan_of (joined st p a) (p + k) s ≡ joined st p (scan_of a k s)
  unfolding scan_of
  joined-scan a k [] h = refl
  joined-scan a k (q ∷ s) h =
      rw (joined_step a k q (omega arith), ← add-suc p k) (joined-scan (step_of a k q) (suc k) s (step_room a k (length s) q h))

-- ---- the table's row

-- a byte alone, with nothing seen before it: no excess is as large as the first smallest
start : Scan
start = record { excess = 8; smallest = 1048576; place = 0 }

alone : ℕ → Scan
alone b = scan_of start 0 (low_bits 8 b)

right : ℕ → Bool
right b =
    eqb (alone b).excess (total b) && (eqb (alone b).smallest (lowest b) && eqb (alone b).place (first_lowest b))

tested : (b : ℕ) → b < 256 → T (right b)
unfolding right alone start step_of scan_of total lowest first_lowest least least_of excess excesses openings closings list_of low_bits paren
tested b h = below_at 256 right tt b h

-- row b, counted from 8
unfoldable pub row : ℕ → Scan
row b = record { excess = total b; smallest = lowest b; place = first_lowest b }

alone-row : (b : ℕ) → b < 256 → alone b ≡ row b
unfolding right row
alone-row b h =
    let t = tested b h in
    let u = and_right (eqb (alone b).excess (total b)) (eqb (alone b).smallest (lowest b) && eqb (alone b).place (first_lowest b)) t in
    let e = eqb→eq (alone b).excess (total b) (and_left (eqb (alone b).excess (total b)) (eqb (alone b).smallest (lowest b) && eqb (alone b).place (first_lowest b)) t) in
    let f = eqb→eq (alone b).smallest (lowest b) (and_left (eqb (alone b).smallest (lowest b)) (eqb (alone b).place (first_lowest b)) u) in
    let g = eqb→eq (alone b).place (first_lowest b) (and_right (eqb (alone b).smallest (lowest b)) (eqb (alone b).place (first_lowest b)) u) in
    rw (← e, ← f, ← g)

joined-start : (st : Scan) (p : ℕ) → Ready st 8 → joined st p start ≡ st
unfolding joined start
joined-start st p ready =
    let r = ready.room in
    let b = ready.bound in
    let e : st.excess + 8 - 8 ≡ st.excess = omega arith in
    rw (le-ltb (st.excess + 1048576 - 8) st.smallest (omega arith), e)

pub scan-row : (st : Scan) (p b : ℕ) → Ready st 8 → b < 256 → scan_of st p (low_bits 8 b) ≡ joined st p (row b)
unfolding alone low_bits start
scan-row st p b ready h =
    ap (λ (x : Scan). scan_of x p (low_bits 8 b)) (sym (joined-start st p ready))
    ∙ ap (λ (x : ℕ). scan_of (joined st p start) x (low_bits 8 b)) (sym (add-zero p))
    ∙ joined-scan st p ready.room start 0 (low_bits 8 b) (omega arith)
    ∙ ap (joined st p) (alone-row b h)

-- ---- the row's three numbers in the table

pub cell-total : (b : ℕ) → cell (3 * b) ≡ total b
unfolding cell
cell-total b =
    let d : 3 * b / 3 ≡ b = omega arith in
    let m : 3 * b % 3 ≡ 0 = omega arith in
    rw (m, d)

pub cell-lowest : (b : ℕ) → cell (3 * b + 1) ≡ lowest b
unfolding cell
cell-lowest b =
    let d : (3 * b + 1) / 3 ≡ b = omega arith in
    let m : (3 * b + 1) % 3 ≡ 1 = omega arith in
    rw (m, d)

pub cell_first : (b : ℕ) → cell (3 * b + 2) ≡ 8 + first_lowest b
unfolding cell
cell_first b =
    let d : (3 * b + 2) / 3 ≡ b = omega arith in
    let m : (3 * b + 2) % 3 ≡ 2 = omega arith in
    rw (m, d)

-- what `byte` makes of them, where the byte goes lower than all before it and where not
module _ (st : Scan) (p b : ℕ) (ready : Ready st 8) (byte : b < 256) where
  pub row-lower : {x y z : ℕ} → x ≡ cell (3 * b) → y ≡ cell (3 * b + 1) → z ≡ cell (3 * b + 2) → st.excess + y - 8 < st.smallest
      → record { excess = st.excess + x - 8; smallest = st.excess + y - 8; place = p + z - 8 } ≡ scan_of st p (low_bits 8 b)
  unfolding joined row
  row-lower {x} {y} {z} e f g l =
      let e' : x ≡ total b = e ∙ cell-total b in
      let f' : y ≡ lowest b = f ∙ cell-lowest b in
      let g' : z ≡ 8 + first_lowest b = g ∙ cell_first b in
      let h : p + z - 8 ≡ p + first_lowest b = omega arith in
      rw (scan-row st p b ready byte, h, ← e', ← f', lt-ltb (st.excess + y - 8) st.smallest l)

  pub row_above : {x y : ℕ} → x ≡ cell (3 * b) → y ≡ cell (3 * b + 1) → st.smallest ≤ st.excess + y - 8
      → record { excess = st.excess + x - 8; smallest = st.smallest; place = st.place } ≡ scan_of st p (low_bits 8 b)
  unfolding joined row
  row_above {x} {y} e f l =
      let e' : x ≡ total b = e ∙ cell-total b in
      let f' : y ≡ lowest b = f ∙ cell-lowest b in
      rw (scan-row st p b ready byte, ← e', ← f', le-ltb (st.excess + y - 8) st.smallest l)
