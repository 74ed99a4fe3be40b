-- `window::refusal_of` meets its contract: a refusal of the check is passed on, then come the two tests of 8.
-- Assumes nothing.
use mathlib.Core.Path.{sym, ◌∙◌}
use Rattle.std.proofs.Common.{inl, inr}
use Rattle.rules.proofs.Window.{window-refused, window_crossed, window_past, window_stands}
use Rattle.answers.proofs.Said.{said_on}
use Rattle.window.proofs.refusal_of.Goals as goal

pub returns-in_err-n : goal.returns-in_err-n
returns-in_err-n c =
    said_on c.from_residual.result c.in_err-n.field-0.0 c.from_residual.ensures.1
    ∙ sym (window-refused c.args.bytes.now c.args.first c.args.last (sym c.in_err-n.ensures))

pub returns-then-last-first : goal.returns-then-last-first
returns-then-last-first c =
    let a = c.args in
    let checked = sym c.in_ok-n.ensures in
    sym
    (elim c.then-last-first.either [
      | inl h ↦ window_crossed a.bytes.now a.first a.last checked h
      | inr h ↦ window_past a.bytes.now a.first a.last checked h.0 h.1
    ])

pub returns : goal.returns
returns c =
    sym (window_stands c.args.bytes.now c.args.first c.args.last (sym c.in_ok-n.ensures) c.if-last-first.false c.if-n-last.false)
