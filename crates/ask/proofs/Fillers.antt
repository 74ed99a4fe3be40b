-- What is read in place of the parentheses that are not meant leaves no mark: closings before the first one, openings behind the last.
-- Assumes nothing.
use mathlib.Core.Path.{◌≡◌, ap, ◌∙◌}
use Prim.Native.Nat.{ℕ, zero, suc, pred, ◌+◌, ◌-◌, ◌≤◌, ◌<◌}
use native.Mathlib.Nat.{add-zero, le_refl}
use native.Mathlib.Numerals.{add-one}
use native.Mathlib.Decide.{dec_lt}
use native.Mathlib.Omega.{arith}
use mathlib.Core.Bool.{Bool, true, false, cond}
use mathlib.Core.List.{List, ◌∷◌, ◌++◌}
use borrow.Author.Tests.{lt-ltb}
use lib.Dec.{ltb}
use lib.ListN.{length, take, drop, get_or, replicate, get_or-eq_default}
use lib.Seq.{drop-cons, drop-append-le, length-take-le}
use Rattle.rules.specs.Shape.{Paren, opening, closing}
use Rattle.rules.specs.Bytes.{low_bits}
use Rattle.rules.proofs.Bytes.{low_bits-length}
use Rattle.scan.specs.declared.Scan.{Scan}
use Rattle.scan.specs.Scan.{seen, step_of, scan_of}
use Rattle.scan.proofs.Laws.{scan-append, scan-least, some_least, scan-openings}
use Rattle.ask.specs.Byte.{begun, shorter, Begins}

-- ---- closings before a closing

-- the smaller of two numbers is above what both are above
above : (t : Bool) (e a m : ℕ) → e < a → e < m → e < cond t a m
above true e a m h l = h
above false e a m h l = l

-- x closings and one more, after which the excess is e: the last is the leftmost smallest, whatever was seen before
scan-closings : (e m q p x : ℕ) (s : List Paren) → e < m
    → scan_of (record { excess = e + x + 1; smallest = m; place = q }) p (replicate x closing ++ closing ∷ s) ≡ scan_of (begun e (p + x)) (p + x + 1) s
unfolding scan_of step_of
scan-closings e m q p zero s h =
    let f : pred (e + 0 + 1) ≡ e = omega arith in
    rw (f, lt-ltb e m h, add-zero p, add-one p)
scan-closings e m q p (suc x) s h =
    let t = ltb (e + x + 1) m in
    let g : suc p + x ≡ p + suc x = omega arith in
    ap (λ (st : Scan). scan_of st (suc p) (replicate x closing ++ closing ∷ s)) step
    ∙ rw (← g) (scan-closings e (cond t (e + x + 1) m) (cond t p q) (suc p) x s (above t e (e + x + 1) m (omega arith) h))
  where
    st : Scan
    st = record { excess = e + suc x + 1; smallest = m; place = q }

    step : step_of st p closing ≡ seen st p (e + x + 1)
    step = let f : pred (e + suc x + 1) ≡ e + x + 1 = omega arith in rw f

-- ---- openings behind

-- x is what has been read with u openings behind: take them off the excess
pub record Undone (u : ℕ) (x y : Scan) : Type 0 where
  pub fits : u ≤ x.excess
  pub same : shorter x u ≡ y

undone : (st : Scan) (p : ℕ) (s : List Paren) (u : ℕ) (x : Scan) → (scan_of st p s).smallest ≤ (scan_of st p s).excess
    → x ≡ scan_of st p (s ++ replicate u opening) → Undone u x (scan_of st p s)
undone st p s u x h e =
    let y = scan_of st p s in
    let f : x ≡ record { excess = y.excess + u; smallest = y.smallest; place = y.place } =
    e ∙ scan-append st p s (replicate u opening) ∙ scan-openings y.excess y.smallest y.place (p + length s) u h in
    let n : x.excess ≡ y.excess + u = ap (λ (z : Scan). z.excess) f in
    let d : y.excess + u - u ≡ y.excess = omega arith in
    record { fits = omega arith; same = rw (f, d) }

-- ---- the masked bytes

pub begins_low : {at b x e : ℕ} → Begins at b x e → x < 8
begins_low {at} {b} {x} {e} h = by (dec_lt x 8)
  where
    past : 8 ≤ x → get_or (low_bits 8 b) x opening ≡ opening
    past l = get_or-eq_default (low_bits 8 b) opening (rw (low_bits-length 8 b) l)

    by : Dec (x < 8) → x < 8
    by (yes l) = l
    by (no n) =
        let p = past (omega arith) in
        let q = h.closes in
        absurd (let z : ◌≡◌ {A = ℕ} 0 1 = cc in omega arith)

-- r is byte b with closings before bit x
pub closed_before : (at b x e r : ℕ) → Begins at b x e → low_bits 8 r ≡ replicate x closing ++ drop x (low_bits 8 b)
    → scan_of (record { excess = e + x + 1; smallest = 1048576; place = 0 }) at (low_bits 8 r) ≡ scan_of (begun e (at + x)) (at + x + 1) (drop (x + 1) (low_bits 8 b))
closed_before at b x e r h f =
    let l : x < length (low_bits 8 b) = rw (low_bits-length 8 b) (begins_low h) in
    rw (f, drop-cons (low_bits 8 b) x opening l, h.closes, add-one x)
    (scan-closings e 1048576 0 at x (drop (suc x) (low_bits 8 b)) (omega (arith, h)))

-- r is byte b with openings from bit k on
module _ (b k r : ℕ) (low : k ≤ 8) (made : low_bits 8 r ≡ take k (low_bits 8 b) ++ replicate (8 - k) opening) where
  front : length (take k (low_bits 8 b)) ≡ k
  front = length-take-le k (low_bits 8 b) (rw (low_bits-length 8 b) low)

  pub opened_behind : (st : Scan) (at : ℕ) (x : Scan) → 0 < k → x ≡ scan_of st at (low_bits 8 r)
      → Undone (8 - k) x (scan_of st at (take k (low_bits 8 b)))
  opened_behind st at x some e =
      undone st at (take k (low_bits 8 b)) (8 - k) x (some_least st at (take k (low_bits 8 b)) (rw front some)) (rw made at e)

  -- a scan that begins with a bit before k comes to the same but for the openings behind
  pub opened-within : (at x e : ℕ) (z : Scan) → x < k → z ≡ scan_of (begun e (at + x)) (at + x + 1) (drop (x + 1) (low_bits 8 r))
      → Undone (8 - k) z (scan_of (begun e (at + x)) (at + x + 1) (drop (x + 1) (take k (low_bits 8 b))))
  opened-within at x e z l f =
      let s = drop (x + 1) (take k (low_bits 8 b)) in
      undone (begun e (at + x)) (at + x + 1) s (8 - k) z (scan-least (begun e (at + x)) (at + x + 1) s (le_refl e))
      (rw (made, drop-append-le (x + 1) (take k (low_bits 8 b)) (replicate (8 - k) opening) (rw front (omega arith))) at f)
