-- `stand_in::fill` meets its contract. The loop's invariant: the first whole bytes are done.
-- Assumes nothing.
use mathlib.Core.Path.{refl, ◌∙◌}
use native.Mathlib.Omega.{arith}
use borrow.Author.Rules.{rules}
use Rattle.rules.proofs.Checked.{Checked, says_checked}
use Rattle.checks.specs.declared.record.Record.{Record}
use Rattle.stand_in.proofs.Filling.{none_filled, byte-ready, byte-filled, none_left, last-ready, last-filled}
use Rattle.stand_in.proofs.fill.Goals as goal

is : (r : Record) → Checked r.bytes.now r.entries
is r = says_checked r.bytes.now r.entries r.accepted

pub slice_bounds-whole-end : goal.slice_bounds-whole-end
slice_bounds-whole-end c = omega (arith, is c.args.checked)

pub loop-b-init : goal.loop-b-init
loop-b-init c = (refl, none_filled (is c.args.checked) c.requires)

pub bits-requires : goal.bits-requires
bits-requires c = byte-ready (is c.args.checked) c.loop-b.invariant.1 c.loop-b-test.true

pub loop-b-preserved : goal.loop-b-preserved
loop-b-preserved c =
    (c.bits.ensures.lent ∙ c.loop-b.invariant.0, byte-filled (is c.args.checked) c.loop-b.invariant.1 c.loop-b-test.true c.bits.ensures.walks)

pub bounds-checked-last : goal.bounds-checked-last
bounds-checked-last c = omega (arith, is c.args.checked)

pub bits-requires-then-n-gt0 : goal.bits-requires-then-n-gt0
bits-requires-then-n-gt0 c =
    last-ready (is c.args.checked) c.loop-b.invariant.1 c.loop-b-test.false c.loop-b.auto.b-index-end (omega arith)

pub returns-then-n-gt0 : goal.returns-then-n-gt0
returns-then-n-gt0 c =
    last-filled (is c.args.checked) c.loop-b.invariant.1 c.requires c.loop-b-test.false c.loop-b.auto.b-index-end (omega arith) c.bits-then-n-gt0.ensures.walks (search rules)

pub returns-else-n-gt0 : goal.returns-else-n-gt0
returns-else-n-gt0 c =
    none_left (is c.args.checked) c.loop-b.invariant.1 c.requires c.loop-b-test.false c.loop-b.auto.b-index-end (omega arith) (search rules)
