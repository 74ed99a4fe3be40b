-- `checks::check` meets its contract: a refusal of the frame is passed on, and behind the frame come 11, 6 and 7.
-- Assumes nothing.
use mathlib.Core.Path.{sym, ◌∙◌}
use Rattle.answers.proofs.Said.{said_on}
use Rattle.rules.proofs.Checked.{says_framed}
use Rattle.checks.proofs.Says.{check-inside, check-refused}
use Rattle.checks.proofs.check.Goals as goal

pub returns-in_err-frame : goal.returns-in_err-frame
returns-in_err-frame c =
    said_on c.from_residual.result c.in_err-frame.field-0.0 c.from_residual.ensures.1 ∙ sym (check-refused c.args.bytes.now _ c.in_err-frame.ensures)

pub inside-requires : goal.inside-requires
inside-requires c =
    let f = says_framed c.args.bytes.now c.in_ok-frame.field-0 (sym c.in_ok-frame.ensures) in
    (f.few, f.long)

pub returns : goal.returns
returns c = c.inside.ensures ∙ sym (check-inside c.args.bytes.now c.in_ok-frame.field-0 c.in_ok-frame.ensures)
