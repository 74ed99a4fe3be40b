-- `drawer::choose` meets its contract: each return is one of the ways of the look.
-- Assumes nothing.
use mathlib.Core.Path.{sym, ap, ◌∙◌}
use native.Mathlib.Omega.{arith}
use borrow.Author.Tests.{eq-eqb, ne_eqb}
use denote.Enum.Bare.{differs_true, differs_false}
use Rattle.std.proofs.Common.{rules}
use lib.ListN.{length-take, length-drop}
use Rattle.rules.specs.Bytes.{entries}
use Rattle.rules.proofs.Drawer.{found_within, look_own, look-empty, look_none, look-refused}
use Rattle.answers.specs.Said.{number}
use Rattle.answers.specs.contracts.Refusal.{the_type}
use Rattle.answers.specs.declared.Refusal.TheVariants.{NoRecord}
use Rattle.drawer.proofs.Said.{number_once}
use Rattle.drawer.proofs.choose.Goals as goal
use Rattle.drawer.proofs.choose.Goals.{in_default-via-in-Ok+else-head-gt0, in_default-via-in-Err+else-ne}

pub part-requires : goal.part-requires
part-requires c = omega (arith, found_within _ _ _ _ (sym c.in-Ok.ensures))

pub head-requires : goal.head-requires
head-requires c =
    rw c.part.ensures (simp (length-take, length-drop) (omega (arith, found_within _ _ _ _ (sym c.in-Ok.ensures))))

pub returns-in-Ok : goal.returns-in-Ok
returns-in-Ok c =
    sym (look_own _ _ _ (sym c.in-Ok.ensures) (omega (arith, c.head.ensures ∙ ap entries c.part.ensures)))

pub returns-in-Err : goal.returns-in-Err
returns-in-Err c =
    sym (look-refused _ _ _ (sym c.in-Err.ensures) (ne_eqb _ _ (λ e. differs_true the_type _ _ (sym c.if-ne.ensures) (number_once _ NoRecord e))))

pub returns-in_default : goal.returns-in_default
returns-in_default c =
    elim c.in_default.branch [
      | in_default-via-in-Ok+else-head-gt0 w ↦
          c.in_shared.ensures ∙ sym (look-empty _ _ _ (sym w.in-Ok.ensures) (omega (arith, w.head.ensures ∙ ap entries w.part.ensures)))
      | in_default-via-in-Err+else-ne w ↦
          c.in_shared.ensures
          ∙ sym (look_none _ _ _ (sym w.in-Err.ensures) (eq-eqb _ _ (ap number (differs_false the_type (search rules) _ NoRecord (sym w.if-ne.ensures)))))
    ]
