-- `blocks::select` meets its contract: the closing is in the word ahead, or is asked of the bytes behind it.
-- Assumes nothing.
use mathlib.Core.Path.{◌≡◌}
use Prim.Native.Nat.{ℕ, ◌≤◌, ◌+◌, ◌-◌, ◌*◌, ◌/◌, ◌%◌}
use native.Mathlib.Omega.{arith}
use mathlib.Core.List.{List}
use lib.ListN.{length}
use Rattle.std.specs.Prelude.{Some, None}
use Rattle.rules.proofs.Bytes.{all_bits-length}
use Rattle.blocks.proofs.Sums.{sums-total}
use Rattle.blocks.proofs.Selects.{Left, left_all, left_on, left_here, left_rest, next_word, select_inside}
use Rattle.blocks.proofs.select.Goals as goal

-- the eights are all the bytes but those behind
eights : {bs : List ℕ} {m left k : ℕ} → m ≤ length bs / 8 → length bs / 8 ≤ m → Left bs (8 * m) left k → Left bs (length bs - length bs % 8) left k
eights {bs} {m} {left} {k} l h passed =
    let e : 8 * m ≡ length bs - length bs % 8 = omega arith in
    record { sum = rw e at passed.sum }

pub loop-m-init : goal.loop-m-init
loop-m-init c = left_all _ _

pub to_byte-requires : goal.to_byte-requires
to_byte-requires c = (c.sums-sums.ensures, omega (arith, sums-total _ _ c.sums-sums.ensures), omega arith)

pub returns-then-left-c : goal.returns-then-left-c
returns-then-left-c c =
    let word = next_word c.args.part.now (8 * c.loop-m.m) c.word-bits.result c.word-bits.ensures in
    let found = left_here c.loop-m.invariant (word (omega arith) (omega arith)) (omega (arith, sums-total _ _ c.sums-sums.ensures)) in
    rw (c.nth.ensures, c.to_byte.ensures.there) (found.0, omega (arith, found.1))

pub loop-m-preserved : goal.loop-m-preserved
loop-m-preserved c =
    let e : 8 * (c.loop-m.m + 1) ≡ 8 * c.loop-m.m + 8 = omega arith in
    let total = sums-total _ _ c.sums-sums.ensures in
    let word = next_word c.args.part.now (8 * c.loop-m.m) c.word-bits.result c.word-bits.ensures in
    rw (e, total) (left_on c.loop-m.invariant (word (omega arith) (omega arith)) (omega arith))

pub returns-in_err-x : goal.returns-in_err-x
returns-in_err-x c =
    rw c.from_residual.ensures
    (left_rest (eights (omega arith) (omega arith) c.loop-m.invariant) (omega arith) None c.in_err-x.ensures)

pub overflow_add-result : goal.overflow_add-result
overflow_add-result c = omega (arith, select_inside _ _ c.in_ok-x.ensures.0, all_bits-length)

pub returns : goal.returns
returns c =
    left_rest (eights (omega arith) (omega arith) c.loop-m.invariant) (omega arith) (Some c.in_ok-x.x) c.in_ok-x.ensures
