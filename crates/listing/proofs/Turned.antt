-- Parentheses turned over, opening for closing: what was their greatest excess is the smallest then. Each law holds of any sequence of
-- parentheses. Assumes nothing.
use mathlib.Core.Path.{◌≡◌, refl, ap, subst⁻¹, ◌∙◌}
use Prim.Native.Nat.{ℕ, zero, suc, min, max, ◌+◌, ◌-◌, ◌*◌, ◌≤◌, ◌<◌, zero-le}
use native.Mathlib.Numerals.{add-one}
use native.Mathlib.Omega.{arith}
use mathlib.Core.Bool.{Bool, true, false, cond}
use mathlib.Core.List.{List, [], ◌∷◌, ◌++◌, map, append-nil, map-append}
use borrow.Author.Tests.{ltb-true, ltb-false}
use lib.Dec.{ltb}
use lib.ListN.{length, take, get_or, length-map}
use lib.Seq.{take_all, take-suc, length-take-le}
use Rattle.rules.specs.Shape.{Paren, opening, closing}
use Rattle.rules.specs.Excess.{openings, excess, list_of, excesses}
use Rattle.rules.specs.Bytes.{paren, low_bits, all_bits}
use Rattle.rules.specs.Listing.{greatest_of, greatest_excess}
use Rattle.rules.proofs.Every.{below_at}
use Rattle.rules.proofs.Same.{same, same_eq}
use Rattle.rules.proofs.Bytes.{all_bits-length, all_bits-append}
use Rattle.rules.proofs.Excess.{excesses-opening, excesses-closing}
use Rattle.scan.specs.declared.Scan.{Scan}
use Rattle.scan.specs.Scan.{step_of, scan_of, Ready}
use Rattle.scan.proofs.Laws.{scan-append, ready_after}

-- ---- the greatest excess

less : (n g : ℕ) (f h : ℕ → ℕ) → ((b : ℕ) → f b ≡ h b - g) → greatest_of (list_of n f) ≡ greatest_of (list_of n h) - g
unfolding greatest_of list_of
less zero g f h e = omega arith
less (suc n) g f h e = omega (arith, e 0, less n g (λ b. f (suc b)) (λ b. h (suc b)) (λ b. e (suc b)))

-- counted from any ground, it is that much more
from-ground : (g : ℕ) (s : List Paren) → greatest_excess s ≡ greatest_of (excesses g s) - g
unfolding greatest_excess excesses excess
from-ground g s = less (length s) g (λ b. excess 0 s b) (λ b. excess g s b) (λ b. omega arith)

no-excess : (e : ℕ) → greatest_of (excesses e []) ≡ 0
unfolding greatest_of excesses list_of
no-excess e = refl

greatest_opening : (e : ℕ) (s : List Paren) → greatest_of (excesses e (opening ∷ s)) ≡ max (suc e) (greatest_of (excesses (suc e) s))
unfolding greatest_of
greatest_opening e s = ap greatest_of (excesses-opening e s)

greatest_closing : (e : ℕ) (s : List Paren) → greatest_of (excesses (suc e) (closing ∷ s)) ≡ max e (greatest_of (excesses e s))
unfolding greatest_of
greatest_closing e s = ap greatest_of (excesses-closing e s)

-- closings behind do not raise it; counted from high enough nothing is cut off
behind : (e : ℕ) (s u : List Paren) → length s + length u ≤ e → openings u ≡ 0
    → max e (greatest_of (excesses e (s ++ u))) ≡ max e (greatest_of (excesses e s))
unfolding openings
behind e [] [] h c = refl
behind e [] (opening ∷ u) h c = absurd (omega arith)
behind zero [] (closing ∷ u) h c = absurd (omega arith)
behind (suc e) [] (closing ∷ u) h c =
    omega (arith, greatest_closing e u, behind e [] u (omega arith) c, no-excess e, no-excess (suc e))
behind e (opening ∷ s) u h c =
    omega (arith, greatest_opening e s, greatest_opening e (s ++ u), behind (suc e) s u (omega arith) c)
behind zero (closing ∷ s) u h c = absurd (omega arith)
behind (suc e) (closing ∷ s) u h c =
    omega (arith, greatest_closing e s, greatest_closing e (s ++ u), behind e s u (omega arith) c)

pub closings_behind : (s u : List Paren) → openings u ≡ 0 → greatest_excess (s ++ u) ≡ greatest_excess s
closings_behind s u c =
    let g = length s + length u in
    omega (arith, from-ground g s, from-ground g (s ++ u), behind g s u (omega arith) c)

-- ---- turned over

abbrev turn : Paren → Paren
turn opening = closing
turn closing = opening

unfoldable pub turned : List Paren → List Paren
turned s = map turn s

-- a byte turned over is what it lacks to 255
turned-byte : (b : ℕ) → b < 256 → low_bits 8 (255 - b) ≡ turned (low_bits 8 b)
unfolding low_bits paren turned
turned-byte b h =
    same_eq (low_bits 8 (255 - b)) (turned (low_bits 8 b)) (below_at 256 (λ b. same (low_bits 8 (255 - b)) (turned (low_bits 8 b))) tt b h)

smaller : (e m : ℕ) → cond (ltb e m) e m ≡ min e m
smaller e m = by (ltb e m) refl
  where
    by : (t : Bool) → ltb e m ≡ t → cond t e m ≡ min e m
    by true h = omega (arith, ltb-true e m h)
    by false h = omega (arith, ltb-false e m h)

abbrev state : ℕ → ℕ → ℕ → Scan
state x m q = record { excess = x; smallest = m; place = q }

-- one parenthesis more: what added up to c still does
both : (c e x m d : ℕ) → x + e ≡ c → m + d ≡ c → min x m + max e d ≡ c
both c e x m d h l = omega arith

regroup : (d e g : ℕ) → max d (max e g) ≡ max (max e d) g
regroup d e g = omega arith

-- a scan of turned parentheses: where its excess and theirs add up to c, so do its smallest and their greatest
scan-turned : (c e x m d q p : ℕ) (s : List Paren) → x + e ≡ c → m + d ≡ c → length s ≤ e → length s ≤ x
    → (scan_of (state x m q) p (turned s)).smallest + max d (greatest_of (excesses e s)) ≡ c
unfolding scan_of step_of turned
scan-turned c e x m d q p [] sum low h l = rw (no-excess e) (omega arith)
scan-turned c e zero m d q p (opening ∷ s) sum low h l = absurd (omega arith)
scan-turned c e (suc x) m d q p (opening ∷ s) sum low h l =
    let q' = cond (ltb x m) p q in
    let on : step_of (state (suc x) m q) p closing ≡ state x (min x m) q' = rw (smaller x m) in
    let up : x + suc e ≡ c = omega arith in
    let ih = scan-turned c (suc e) x (min x m) (max (suc e) d) q' (suc p) s up (both c (suc e) x m d up low) (omega arith) (omega arith) in
    ap (λ (st : Scan). (scan_of st (suc p) (turned s)).smallest + max d (greatest_of (excesses e (opening ∷ s)))) on
    ∙ rw (greatest_opening e s, regroup d (suc e) (greatest_of (excesses (suc e) s))) ih
scan-turned c zero x m d q p (closing ∷ s) sum low h l = absurd (omega arith)
scan-turned c (suc e) x m d q p (closing ∷ s) sum low h l =
    let q' = cond (ltb (suc x) m) p q in
    let on : step_of (state x m q) p opening ≡ state (suc x) (min (suc x) m) q' = rw (smaller (suc x) m) in
    let down : suc x + e ≡ c = omega arith in
    let ih = scan-turned c e (suc x) (min (suc x) m) (max e d) q' (suc p) s down (both c e (suc x) m d down low) (omega arith) (omega arith) in
    ap (λ (st : Scan). (scan_of st (suc p) (turned s)).smallest + max d (greatest_of (excesses (suc e) (closing ∷ s)))) on
    ∙ rw (greatest_closing e s, regroup d e (greatest_of (excesses e s))) ih

-- ---- byte by byte

abbrev start : Scan
start = state 65536 65536 0

-- the first k bytes are read
pub record Turning (bs : List ℕ) (st : Scan) (k : ℕ) : Type 0 where
  pub within : k ≤ length bs
  pub read : st ≡ scan_of start 0 (turned (all_bits (take k bs)))

turned-length : (bs : List ℕ) (k : ℕ) → k ≤ length bs → length (turned (all_bits (take k bs))) ≡ 8 * k
unfolding turned
turned-length bs k h = length-map (all_bits (take k bs)) turn ∙ rw (length-take-le k bs h) at (all_bits-length (take k bs))

pub none_turned : (bs : List ℕ) → Turning bs start 0
unfolding turned all_bits scan_of
none_turned bs = record { within = zero-le; read = refl }

module _ {bs : List ℕ} {st : Scan} {k : ℕ} (t : Turning bs st k) where
  pub turned-ready : length bs ≤ 8192 → k < length bs → Ready st 8
  turned-ready short h =
      subst⁻¹ (λ (x : Scan). Ready x 8) t.read
      (ready_after start 0 8 (turned (all_bits (take k bs)))
      (let l = turned-length bs k t.within in record { room = omega arith; high = omega arith; bound = omega arith }))

  pub one-turned : {x : Scan} (b : ℕ) → k < length bs → b ≡ get_or bs k 0 → b < 256 → x ≡ scan_of st (8 * k) (low_bits 8 (255 - b)) → Turning bs x (k + 1)
  unfolding all_bits turned
  one-turned {x} b h e l f =
      let p : 0 + length (turned (all_bits (take k bs))) ≡ 8 * k = omega (arith, turned-length bs k t.within) in
      record {
        within = omega arith;
        read =
            f ∙ rw (turned-byte b l, t.read, add-one k, take-suc bs k 0 h, all_bits-append, append-nil, map-append, scan-append, p, e);
      }

  pub all_turned : length bs ≤ 8192 → length bs ≤ k → st.smallest + greatest_excess (all_bits bs) ≡ 65536
  all_turned short h =
      let s : List Paren = all_bits bs in
      let l : length s ≤ 65536 = omega (arith, all_bits-length bs) in
      let e : st.smallest ≡ (scan_of start 0 (turned s)).smallest = ap (λ (x : Scan). x.smallest) (rw (take_all k bs h) at t.read) in
      omega (arith, from-ground 65536 s, scan-turned 131072 65536 65536 65536 65536 0 0 s (omega arith) (omega arith) l l)
