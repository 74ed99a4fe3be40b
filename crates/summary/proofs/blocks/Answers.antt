-- `summary::blocks` meets its contract. The loop's invariant: the first k blocks are laid, and their closings passed.
-- Assumes nothing.
use mathlib.Core.Path.{◌≡◌}
use Prim.Native.Nat.{◌+◌, ◌/◌}
use native.Mathlib.Omega.{arith}
use Rattle.rules.specs.Bytes.{parens}
use Rattle.rules.specs.Summary.{blocks_for}
use Rattle.summary.proofs.Sizes.{few}
use Rattle.summary.proofs.Slots.{lays_none, lays-on}
use Rattle.summary.proofs.Reading.{none_closed}
use Rattle.summary.proofs.blocks.Goals as goal

pub loop-k-init : goal.loop-k-init
loop-k-init c =
    let s = parens c.args.checked.entries c.args.checked.bytes.now in
    (none_closed s, lays_none s 0 _)

pub loop-k-preserved : goal.loop-k-preserved
loop-k-preserved c =
    (c.whole-block.ensures.upto, lays-on (omega (arith, few c.args.checked)) (omega arith) c.loop-k.invariant.1 c.whole-block.ensures c.note.ensures)

pub note-requires-then-n-gt0 : goal.note-requires-then-n-gt0
note-requires-then-n-gt0 c = omega (arith, few c.args.checked)

pub returns-then-n-gt0 : goal.returns-then-n-gt0
returns-then-n-gt0 c =
    let k : c.loop-k.k ≡ c.args.checked.entries / 128 = omega arith in
    let blocks : blocks_for c.args.checked.entries ≡ c.args.checked.entries / 128 + 1 = omega arith in
    rw blocks (lays-on (omega (arith, few c.args.checked)) (omega arith) (rw k at c.loop-k.invariant.1) c.last.ensures c.note-then-n-gt0.ensures)
