-- `drawer::record_at` meets its contract: where a byte stands, the frame over what is left decides.
-- Assumes nothing.
use mathlib.Core.Path.{sym, ap, refl, ◌∙◌}
use native.Mathlib.Omega.{arith}
use Rattle.rules.proofs.Checked.{says_framed}
use Rattle.rules.proofs.Drawer.{frame-rest, seek_end, seek_fault, seek_here}
use Rattle.answers.proofs.Said.{handed_on}
use Rattle.drawer.specs.Said.{said_found}
use Rattle.drawer.proofs.record_at.Goals as goal

pub returns-then-drawer-at : goal.returns-then-drawer-at
returns-then-drawer-at c = sym (seek_end _ _ _ c.if-drawer-at.true)

pub returns-in_err-n : goal.returns-in_err-n
returns-in_err-n c =
    ap said_found (handed_on c.from_residual.result c.in_err-n.field-0.0 c.from_residual.ensures.1)
    ∙ sym (seek_fault _ _ _ _ c.if-drawer-at.false (frame-rest c.args.drawer.now c.args.at refl c.in_err-n.ensures))

pub overflow_add-size : goal.overflow_add-size
overflow_add-size c =
    omega (arith, (says_framed _ _ (frame-rest c.args.drawer.now c.args.at refl c.in_ok-n.ensures)).few)

pub returns : goal.returns
returns c = sym (seek_here _ _ _ (frame-rest c.args.drawer.now c.args.at refl c.in_ok-n.ensures))
