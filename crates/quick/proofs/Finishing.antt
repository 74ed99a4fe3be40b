-- The last block's part behind what stands lowest so far.
-- Assumes nothing.
use mathlib.Core.Path.{◌≡◌, sym, ap, ◌∙◌}
use Prim.Native.Nat.{ℕ, ◌+◌, ◌*◌, ◌/◌, ◌≤◌, ◌<◌}
use native.Mathlib.Nat.{le_refl, le_trans}
use native.Mathlib.Omega.{arith}
use mathlib.Core.List.{List}
use lib.ListN.{get_or}
use Rattle.rules.specs.Excess.{closing_place}
use Rattle.rules.specs.Bytes.{all_bits}
use Rattle.scan.specs.declared.Scan.{Scan}
use Rattle.blocks.specs.Search.{Before}
use Rattle.quick.specs.declared.Stretch.{Stretch}
use Rattle.quick.specs.Part.{ground_level, height, level, Reaches}
use Rattle.quick.specs.Quick.{parens_in, Ours, closing_in}
use Rattle.quick.specs.Stretch.{body, numbers, Finishes}
use Rattle.quick.proofs.Beats.{beats_idle}
use Rattle.quick.proofs.Ours.{closings_all, level_own, leaf-bounds, closing_same, closing_low}

module _ (s : Stretch) (low : ℕ) (leaf : low ≡ ground_level + get_or (numbers s.lent) (512 + s.b) 0) (best : Scan) where
  abbrev bytes : List ℕ
  bytes = body s.lent

  abbrev t : List ℕ
  t = numbers s.lent

  -- no excess of the part is below the leaf
  bounds : (n : ℕ) → Ours bytes t n → s.j < n → closing_in bytes n s.j / 256 ≡ s.b → (p : ℕ) → 256 * s.b ≤ p → p < closing_in bytes n s.j + 1 → low ≤ height bytes p
  bounds n ours among at p from upto =
      let f = s.last.few in
      let c = closing_low bytes t n ours s.j among in
      omega (arith, leaf-bounds bytes t n ours s.b p f from (omega arith) (omega arith))

  pub not_lower : best.smallest ≤ low → Finishes s best best
  not_lower h =
      record {
        bound = le_refl _;
        right = λ n ours among at some. beats_idle (height bytes) (256 * s.b) (closing_in bytes n s.j + 1) best (λ p g l. le_trans h (bounds n ours among at p g l));
      }

  pub finished : (e : ℕ) (r : Scan) → Before t s.b e → Reaches bytes s.b s.j (record { excess = 131072 + e; smallest = best.smallest; place = best.place }) low r → Finishes s best r
  finished e r before on =
      record {
        bound = on.bound;
        right = λ n ours among at some.
            let c = closing_low bytes t n ours s.j among in
            let f : closing_place (all_bits bytes) s.j ≡ closing_in bytes n s.j = closing_same bytes t n ours s.j among in
            let g = before.right (parens_in bytes n) n ours.own some (omega arith) in
            let l : 131072 + e ≡ level bytes (256 * s.b) = ap (131072 +◌) g ∙ sym (level_own bytes t n ours (256 * s.b) (omega arith) (omega arith)) in
            let reach = on.right (omega (arith, closings_all bytes t n ours)) (ap (◌/ 256) f ∙ at) in
            rw f at (reach.right l (λ p u v. bounds n ours among at p u (omega arith)));
      }
