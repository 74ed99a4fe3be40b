-- A scan sees the leftmost smallest excess: one parenthesis after another, its three numbers are those of the excesses read so far.
-- Of any sequence, from any ground that is high enough. Assumes nothing.
use mathlib.Core.Path.{◌≡◌, refl, ap, sym, ◌∙◌}
use Prim.Native.Nat.{ℕ, zero, suc, ◌+◌, ◌-◌, ◌≤◌, ◌<◌}
use native.Mathlib.Nat.{add-suc, add-zero}
use native.Mathlib.Numerals.{add-one}
use native.Mathlib.Omega.{arith}
use mathlib.Core.Bool.{Bool, true, false, cond}
use mathlib.Core.List.{List, [], ◌∷◌, ◌++◌}
use lib.Dec.{ltb}
use lib.ListN.{length, take, drop, get_or, length-drop}
use lib.Seq.{take-suc, drop-append-le, length-take-le, slice_empty}
use Rattle.rules.specs.Shape.{Paren, opening, closing}
use Rattle.rules.specs.Column.{least_of}
use Rattle.rules.specs.Excess.{openings, closings, excess, excesses}
use Rattle.rules.proofs.Excess.{openings-append, closings-append, counts-length, excesses_at}
use Rattle.scan.specs.declared.Scan.{Scan}
use Rattle.scan.specs.Scan.{seen, step_of, scan_of}
use Rattle.scan.proofs.Laws.{scan-append}
use Rattle.ask.specs.Byte.{begun}
use Rattle.ask.specs.Between.{seen_from}

-- one more excess
seen_more : (c : List ℕ) (a k : ℕ) → seen (seen_from c a k) (a + suc k) (get_or c (a + suc k) 0) ≡ seen_from c a (suc k)
unfolding seen_from least_of
seen_more c a k = by (ltb (get_or c (a + suc k) 0) (get_or c (least_of c a k) 0))
  where
    e : ℕ
    e = get_or c (a + suc k) 0

    p : ℕ
    p = least_of c a k

    by : (t : Bool)
        → ◌≡◌ {A = Scan}
        (record { excess = e; smallest = cond t e (get_or c p 0); place = cond t (a + suc k) p })
        (record { excess = e; smallest = get_or c (cond t (a + suc k) p) 0; place = cond t (a + suc k) p })
    by true = refl
    by false = refl

module _ (g : ℕ) (s : List Paren) (high : length s ≤ g) where
  -- to read the parenthesis after b is to see the excess after it
  read : (st : Scan) (p b : ℕ) → suc b < length s → st.excess ≡ excess g s b → (q : Paren) → get_or s (suc b) opening ≡ q
      → step_of st p q ≡ seen st p (excess g s (suc b))
  unfolding excess openings closings step_of
  read st p b l h opening e =
      let o = openings-append (take (suc b) s) (opening ∷ []) in
      let d = closings-append (take (suc b) s) (opening ∷ []) in
      let n = counts-length (take (suc b) s) in
      let m = length-take-le (suc b) s (omega arith) in
      ap (seen st p) (rw (h, add-one (suc b), add-one b, take-suc s (suc b) opening l, e) (omega arith))
  read st p b l h closing e =
      let o = openings-append (take (suc b) s) (closing ∷ []) in
      let d = closings-append (take (suc b) s) (closing ∷ []) in
      ap (seen st p) (rw (h, add-one (suc b), add-one b, take-suc s (suc b) opening l, e) (omega arith))

  step : (a k : ℕ) → a + suc k < length s → step_of (seen_from (excesses g s) a k) (a + suc k) (get_or s (suc (a + k)) opening) ≡ seen_from (excesses g s) a (suc k)
  unfolding seen_from
  step a k h =
      let n : a + suc k ≡ suc (a + k) = add-suc a k in
      let c = excesses g s in
      let e : excess g s (suc (a + k)) ≡ get_or c (a + suc k) 0 = rw (← n) (sym (excesses_at g s (a + suc k) h)) in
      read (seen_from c a k) (a + suc k) (a + k) (omega arith) (excesses_at g s (a + k) (omega arith)) (get_or s (suc (a + k)) opening) refl
      ∙ ap (seen (seen_from c a k) (a + suc k)) e
      ∙ seen_more c a k

  from : (a k : ℕ) → a + k < length s
      → scan_of (seen_from (excesses g s) a 0) (suc a) (drop (suc a) (take (suc (a + k)) s)) ≡ seen_from (excesses g s) a k
  unfolding scan_of
  from a zero h = rw (add-zero a, slice_empty (suc a) s)
  from a (suc k) h =
      let t = take (suc (a + k)) s in
      let q = get_or s (suc (a + k)) opening in
      let n : length t ≡ suc (a + k) = length-take-le (suc (a + k)) s (omega arith) in
      let f : take (suc (a + suc k)) s ≡ t ++ (q ∷ []) = rw (add-suc a k) (take-suc s (suc (a + k)) opening (omega arith)) in
      let p : suc a + length (drop (suc a) t) ≡ a + suc k = omega (arith, length-drop (suc a) t) in
      rw (f, drop-append-le (suc a) t (q ∷ []) (omega arith), scan-append (seen_from (excesses g s) a 0) (suc a) (drop (suc a) t) (q ∷ []), p, from a k (omega arith))
      (step a k h)

  start : (a : ℕ) → a < length s → begun (excess g s a) a ≡ seen_from (excesses g s) a 0
  unfolding seen_from least_of
  start a h = rw (add-zero a, excesses_at g s a h)

  -- from place a to place b
  pub scan_seen : (a b : ℕ) → a ≤ b → b < length s
      → scan_of (begun (excess g s a) a) (suc a) (drop (suc a) (take (suc b) s)) ≡ seen_from (excesses g s) a (b - a)
  scan_seen a b h l =
      let e : a + (b - a) ≡ b = omega arith in
      rw (start a (omega arith)) (rw e at (from a (b - a) (omega arith)))
