-- `scan::Scan::thirty_two` meets its contract: four times eight bytes, counted together.
-- Assumes nothing.
use mathlib.Core.Path.{◌≡◌, ap, sym, ◌∙◌}
use Prim.Native.Nat.{ℕ, ◌+◌, ◌≤◌}
use native.Mathlib.Omega.{arith}
use mathlib.Core.List.{List}
use lib.ListN.{length, take, drop}
use Rattle.rules.specs.Bytes.{all_bits}
use Rattle.rules.specs.Excess.{closings}
use Rattle.scan.proofs.Laws.{few_close, both_close, scan-counted}
use Rattle.scan.proofs.Scan.thirty_two.Goals as goal

-- the closings of 32 bytes from those of each eight
four : (k : ℕ) (bs : List ℕ) (a b c d : ℕ) → a ≡ closings (all_bits (take 8 (drop k bs))) → b ≡ closings (all_bits (take 8 (drop (k + 8) bs)))
    → c ≡ closings (all_bits (take 8 (drop (k + 16) bs))) → d ≡ closings (all_bits (take 8 (drop (k + 24) bs)))
    → a + b + (c + d) ≡ closings (all_bits (take 32 (drop k bs)))
four k bs a b c d e f g h =
    let i : k + 16 + 8 ≡ k + 24 = omega arith in
    omega (arith, e, f, g, h, both_close k 16 16 bs, both_close k 8 8 bs, rw i at (both_close (k + 16) 8 8 bs))

pub overflow_add-front : goal.overflow_add-front
overflow_add-front c =
    omega (arith, c.closings.ensures, few_close c.args.k 8 c.args.part.now (omega arith), c.closings-2.ensures, few_close (c.args.k + 8) 8 c.args.part.now (omega arith))

pub overflow_add-rest : goal.overflow_add-rest
overflow_add-rest c =
    omega (arith, c.closings-3.ensures, few_close (c.args.k + 16) 8 c.args.part.now (omega arith), c.closings-4.ensures, few_close (c.args.k + 24) 8 c.args.part.now (omega arith))

pub overflow_add-result-2 : goal.overflow_add-result-2
overflow_add-result-2 c =
    omega (arith, four c.args.k c.args.part.now _ _ _ _ c.closings.ensures c.closings-2.ensures c.closings-3.ensures c.closings-4.ensures, few_close c.args.k 32 c.args.part.now c.requires.2)

pub overflow_mul-result : goal.overflow_mul-result
overflow_mul-result c =
    omega (arith, four c.args.k c.args.part.now _ _ _ _ c.closings.ensures c.closings-2.ensures c.closings-3.ensures c.closings-4.ensures, few_close c.args.k 32 c.args.part.now c.requires.2)

pub overflow_sub-result : goal.overflow_sub-result
overflow_sub-result c =
    omega (arith, four c.args.k c.args.part.now _ _ _ _ c.closings.ensures c.closings-2.ensures c.closings-3.ensures c.closings-4.ensures, few_close c.args.k 32 c.args.part.now c.requires.2)

pub returns : goal.returns
returns c p =
    scan-counted c.args.k 32 c.args.part.now c.requires.2 c.args.self p _
    (four c.args.k c.args.part.now _ _ _ _ c.closings.ensures c.closings-2.ensures c.closings-3.ensures c.closings-4.ensures) c.requires.0
