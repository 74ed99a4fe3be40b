-- `listing::line_at` meets its contract.
-- Assumes nothing.
use mathlib.Core.Path.{sym, refl}
use native.Mathlib.Omega.{arith}
use Rattle.drawer.proofs.Walk.{ends-within, faulty}
use Rattle.listing.proofs.Onward.{left_end, left-full, left-fault, behind_end, behind-full, behind-record, writes, passes}
use Rattle.listing.proofs.line_at.Goals as goal

pub returns-then-drawer-at-clause-writes : goal.returns-then-drawer-at-clause-writes
returns-then-drawer-at-clause-writes c =
    writes (left_end _ _ _ c.if-drawer-at.true) (behind_end _ _ _ c.if-drawer-at.true) (rw c.from-number.ensures at c.end.ensures.anew) refl (omega arith)

pub returns-then-k-ge64-clause-writes : goal.returns-then-k-ge64-clause-writes
returns-then-k-ge64-clause-writes c =
    rw c.from-number.ensures
    (writes (left-full _ _ _ c.if-drawer-at.false (omega arith)) (behind-full _ _ _ c.if-drawer-at.false (omega arith)) (rw c.from-number.ensures at c.refused.ensures.anew) refl (omega arith))

pub overflow_add-end : goal.overflow_add-end
overflow_add-end c = omega (arith, ends-within _ _ _ _ (sym c.in-Ok.ensures))

pub slice_bounds-judged-end : goal.slice_bounds-judged-end
slice_bounds-judged-end c = omega (arith, ends-within _ _ _ _ (sym c.in-Ok.ensures))

pub returns-in-Ok-clause-writes : goal.returns-in-Ok-clause-writes
returns-in-Ok-clause-writes c =
    passes _ c.if-drawer-at.false c.if-k-ge64.false _ _ (sym c.in-Ok.ensures) (rw c.from-number.ensures at c.judged.ensures.anew) refl (omega arith)

pub returns-in-Err-clause-writes : goal.returns-in-Err-clause-writes
returns-in-Err-clause-writes c =
    let f = faulty _ _ _ c.if-drawer-at.false (sym c.in-Err.ensures) in
    rw c.from-number.ensures
    (writes (left-fault _ _ _ c.if-drawer-at.false _ c.if-k-ge64.false f) (behind-record _ _ _ c.if-drawer-at.false c.if-k-ge64.false f) (rw c.from-number.ensures at c.refused-in-Err.ensures.anew) refl (omega arith))
