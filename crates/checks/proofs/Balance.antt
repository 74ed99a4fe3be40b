-- Balanced, read off a scan: nothing went below the ground, and the end is back at it.
-- Assumes nothing.
use mathlib.Core.Path.{◌≡◌, refl, ap, sym, subst⁻¹, ◌∙◌}
use Prim.Native.Nat.{ℕ, zero, suc, pred, ◌+◌, ◌≤◌, ◌<◌}
use native.Mathlib.Nat.{add-suc, lt_irrefl, lt_of_le_of_lt, not-le_of_lt}
use native.Mathlib.Decide.{ℕ_discrete}
use native.Mathlib.Omega.{arith}
use mathlib.Core.Bool.{Bool, false, cond}
use mathlib.Core.List.{List, [], ◌∷◌, ◌++◌}
use borrow.Author.Tests.{lt-ltb, eq-eqb, ne_eqb}
use lib.Dec.{eqb}
use lib.ListN.{length, replicate}
use Rattle.rules.specs.Shape.{Paren, opening, closing}
use Rattle.rules.specs.Excess.{balanced_from, balanced}
use Rattle.scan.specs.declared.Scan.{Scan}
use Rattle.scan.specs.Scan.{step_of, scan_of}
use Rattle.scan.proofs.Laws.{scan-append, scan_below, scan-least, scan-openings, step-opening, step-closing}

-- two equations that hold together are one test
one-test : (a b c d : ℕ) → (a ≡ b → c ≡ d) → (c ≡ d → a ≡ b) → eqb a b ≡ eqb c d
one-test a b c d f g =
    elim (ℕ_discrete a b) [ yes e ↦ eq-eqb a b e ∙ sym (eq-eqb c d (f e)) | no n ↦ ne_eqb a b n ∙ sym (ne_eqb c d (λ e. n (g e))) ]

-- what a scan s ends in says of the parentheses from an excess of e on, counted from the ground g
record Tells (g e : ℕ) (s : List Paren) (x : Scan) : Type 0 where
  pub below : x.smallest < g → balanced_from e s ≡ false
  pub above : g ≤ x.smallest → balanced_from e s ≡ eqb x.excess g

abbrev from : ℕ → ℕ → ℕ → Scan
from g e q = record { excess = g + e; smallest = g; place = q }

tells : (g e q p : ℕ) (s : List Paren) → length s ≤ g → Tells g e s (scan_of (from g e q) p s)
unfolding scan_of balanced_from step_of
tells g e q p [] h =
    record { below = λ l. absurd (lt_irrefl g l); above = λ l. one-test e 0 (g + e) g (λ x. omega arith) (λ x. omega arith) }
tells g e q p (opening ∷ s) h =
    let on : step_of (from g e q) p opening ≡ from g (suc e) q = rw (step-opening (g + e) g q p (omega arith), add-suc g e) in
    let t = subst⁻¹ (λ (st : Scan). Tells g (suc e) s (scan_of st (suc p) s)) on (tells g (suc e) q (suc p) s (omega arith)) in
    record { below = t.below; above = t.above }
tells g zero q p (closing ∷ s) h =
    let low : (step_of (from g 0 q) p closing).smallest < g = dips in
    record { below = λ l. refl; above = λ l. absurd (not-le_of_lt (lt_of_le_of_lt (scan_below (step_of (from g 0 q) p closing) (suc p) s) low) l) }
  where
    dips : (step_of (from g 0 q) p closing).smallest < g
    dips =
        let d : pred (g + 0) < g = omega arith in
        subst⁻¹ (λ (t : Bool). cond t (pred (g + 0)) g < g) (lt-ltb (pred (g + 0)) g d) d
tells g (suc e) q p (closing ∷ s) h =
    let on : step_of (from g (suc e) q) p closing ≡ from g e q = rw (add-suc g e) (step-closing (g + e) g q p (omega arith)) in
    let t = subst⁻¹ (λ (st : Scan). Tells g e s (scan_of st (suc p) s)) on (tells g e q (suc p) s (omega arith)) in
    record { below = t.below; above = t.above }

-- the same with openings behind them, which are never the smallest
pub in_balance : (g u : ℕ) (s : List Paren) → length s ≤ g → (x : Scan) → x ≡ scan_of (from g 0 0) 0 (s ++ replicate u opening)
    → (x.smallest < g → balanced s ≡ false) × (g ≤ x.smallest → balanced s ≡ eqb x.excess (g + u))
unfolding balanced
in_balance g u s h x e =
    let y = scan_of (from g 0 0) 0 s in
    let t : Tells g 0 s y = tells g 0 0 0 s h in
    let f : x ≡ record { excess = y.excess + u; smallest = y.smallest; place = y.place } =
    e ∙ scan-append (from g 0 0) 0 s (replicate u opening) ∙ scan-openings y.excess y.smallest y.place (0 + length s) u (scan-least (from g 0 0) 0 s (omega arith)) in
    let m : x.smallest ≡ y.smallest = ap (λ (z : Scan). z.smallest) f in
    let n : x.excess ≡ y.excess + u = ap (λ (z : Scan). z.excess) f in
    (λ l. t.below (omega arith), λ l. t.above (omega arith) ∙ one-test y.excess g x.excess (g + u) (λ v. omega arith) (λ v. omega arith))
