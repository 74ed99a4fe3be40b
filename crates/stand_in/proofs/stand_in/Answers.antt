-- `stand_in::stand_in` meets its contract: a refusal of the record check is passed on, then comes 2, then the walk.
-- Assumes nothing.
use mathlib.Core.Path.{sym}
use Rattle.answers.proofs.Said.{handed_on}
use Rattle.stand_in.proofs.Standing.{check-refused, room-refused, stands_in}
use Rattle.stand_in.proofs.stand_in.Goals as goal

pub returns-in_err-checked : goal.returns-in_err-checked
returns-in_err-checked c =
    rw (handed_on c.from_residual.result c.in_err-checked.field-0.0 c.from_residual.ensures.1) (check-refused _ _ _ (sym c.in_err-checked.ensures.says))

pub returns-then-column-checked : goal.returns-then-column-checked
returns-then-column-checked c =
    room-refused _ _ _ (sym c.in_ok-checked.ensures.says) c.if-column-checked.true

pub returns : goal.returns
returns c =
    stands_in (sym c.in_ok-checked.ensures.says) c.if-column-checked.false (rw c.in_ok-checked.ensures.keeps at c.fill.ensures)
