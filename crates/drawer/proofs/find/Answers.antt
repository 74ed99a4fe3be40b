-- `drawer::find` meets its contract: each record that is passed is one fewer to pass.
-- Assumes nothing.
use mathlib.Core.Path.{◌≡◌, sym, ap, ◌∙◌}
use Prim.Native.Nat.{suc, ◌+◌, ◌-◌, ◌≤◌}
use native.Mathlib.Nat.{sub-zero}
use native.Mathlib.Omega.{arith}
use borrow.Author.Tests.{lt-ltb, le-ltb}
use Rattle.rules.specs.Drawer.{find_says}
use Rattle.rules.proofs.Drawer.{find-seek}
use Rattle.answers.proofs.Said.{handed_on}
use Rattle.drawer.specs.Said.{said_found}
use Rattle.drawer.proofs.Walk.{ends-within, walks-on, ends-lost}
use Rattle.drawer.proofs.find.Goals as goal

pub returns-then-drawer-gt65536 : goal.returns-then-drawer-gt65536
unfolding find_says
returns-then-drawer-gt65536 c = simp (lt-ltb _ _ c.if-drawer-gt65536.true)

pub returns-then-r-ge64 : goal.returns-then-r-ge64
unfolding find_says
returns-then-r-ge64 c =
    let many : 64 ≤ c.args.r = omega arith in
    simp (le-ltb _ _ c.if-drawer-gt65536.false, le-ltb _ _ many)

pub loop-init : goal.loop-init
loop-init c = rw sub-zero (sym (find-seek _ _ c.if-drawer-gt65536.false c.if-r-ge64.false))

pub loop-preserved : goal.loop-preserved
loop-preserved c =
    let one : c.args.r - c.loop.counter ≡ suc (c.args.r - (c.loop.counter + 1)) = omega arith in
    sym (walks-on _ _ _ _ _ (sym c.in_ok-passed.ensures)) ∙ rw one at c.loop.invariant

pub returns-in_err-passed : goal.returns-in_err-passed
returns-in_err-passed c =
    ap said_found (handed_on c.from_residual.result c.in_err-passed.field-0.0 c.from_residual.ensures.1)
    ∙ sym (ends-lost _ _ _ _ (sym c.in_err-passed.ensures))
    ∙ c.loop.invariant

pub overflow_add-at : goal.overflow_add-at
overflow_add-at c = omega (arith, ends-within _ _ _ _ (sym c.in_ok-passed.ensures))
