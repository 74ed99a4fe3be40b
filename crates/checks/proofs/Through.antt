-- A whole record through the scan: all bytes but the last, then the last with its unused bits opened.
-- Assumes nothing.
use mathlib.Core.Path.{◌≡◌, ap, subst⁻¹, ◌∙◌}
use Prim.Native.Nat.{ℕ, ◌+◌, ◌-◌, ◌*◌, ◌≤◌, ◌<◌}
use native.Mathlib.Omega.{arith}
use mathlib.Core.Bool.{false}
use mathlib.Core.List.{List, ◌++◌}
use lib.Dec.{eqb}
use lib.ListN.{length, take, drop, replicate, length-drop, length-take}
use lib.Seq.{length-take-le}
use Rattle.rules.specs.Shape.{opening}
use Rattle.rules.specs.Excess.{balanced}
use Rattle.rules.specs.Bytes.{low_bits, all_bits, parens}
use Rattle.rules.proofs.Bytes.{all_bits-length}
use Rattle.scan.specs.declared.Scan.{Scan}
use Rattle.scan.specs.Scan.{Ready, scan_of}
use Rattle.scan.proofs.Laws.{scan-opened, ready_after}
use Rattle.checks.specs.Inside.{Whole}
use Rattle.checks.proofs.Balance.{in_balance}
use Rattle.checks.proofs.Last.{spare, before, last, parens_last}

abbrev pub start : Scan
start = record { excess = 65536; smallest = 65536; place = 0 }

module _ (r : List ℕ) (n : ℕ) (whole : Whole r n) (some : 0 < n) where
  before_length : length (all_bits (before r)) ≡ 8 * (length r - 1 - 4)
  before_length =
      let e = whole.exact in
      all_bits-length (before r) ∙ ap (8 *◌) (length-take-le (length r - 1 - 4) (drop 4 r) (omega (arith, length-drop 4 r)))

  pub ready_last : (x : Scan) → x ≡ scan_of start 0 (all_bits (before r)) → Ready x 8
  ready_last x e =
      let w = whole.exact in
      let f = whole.few in
      let l = before_length in
      subst⁻¹ (λ (x : Scan). Ready x 8) e
      (ready_after start 0 8 (all_bits (before r)) (record { room = omega arith; high = omega arith; bound = omega arith }))

  short : length (parens n r) ≤ 65536
  unfolding parens
  short = let few = whole.few in omega (arith, length-take (2 * n) (all_bits (drop 4 r)))

  -- x is the state before the last byte, b that byte with its unused bits opened, y the state behind it
  pub through : (x y : Scan) (b : ℕ) → x ≡ scan_of start 0 (all_bits (before r)) → low_bits 8 b ≡ take (8 - spare n) (last r) ++ replicate (8 - (8 - spare n)) opening
      → y ≡ scan_of x (8 * (length r - 1 - 4)) (low_bits 8 b)
      → (y.smallest < 65536 → balanced (parens n r) ≡ false) × (65536 ≤ y.smallest → balanced (parens n r) ≡ eqb y.excess (65536 + spare n))
  through x y b e f g =
      let w = whole.exact in
      let few = whole.few in
      let used = take (8 - spare n) (last r) in
      let u : 8 - (8 - spare n) ≡ spare n = omega arith in
      let f' : low_bits 8 b ≡ used ++ replicate (spare n) opening = f ∙ ap (λ (k : ℕ). used ++ replicate k opening) u in
      let place : 8 * (length r - 1 - 4) ≡ 0 + 8 * length (before r) = omega (arith, before_length, all_bits-length (before r)) in
      in_balance 65536 (spare n) (parens n r) short y
      (rw (parens_last r n whole some) (scan-opened start x y 0 (before r) b (spare n) used e f' (rw (← place) g)))
