-- `window::ask_in` meets its contract: a refusal of the plain ask is passed on, then come the two tests of 8.
-- Assumes nothing.
use mathlib.Core.Path.{sym, ◌∙◌}
use Rattle.std.proofs.Common.{inl, inr}
use Rattle.rules.proofs.Window.{in_refused, in_below, in_above, in_inside}
use Rattle.answers.proofs.Said.{said_on}
use Rattle.window.proofs.ask_in.Goals as goal

pub returns-in_err-p : goal.returns-in_err-p
returns-in_err-p c =
    let w = c.args.w in
    said_on c.from_residual.result c.in_err-p.field-0.0 c.from_residual.ensures.1
    ∙ sym (in_refused w.bytes.now w.first w.last c.args.i c.args.j (sym c.in_err-p.ensures))

pub returns-then-i-w : goal.returns-then-i-w
returns-then-i-w c =
    let w = c.args.w in
    let asked = sym c.in_ok-p.ensures in
    sym
    (elim c.then-i-w.either [
      | inl h ↦ in_below w.bytes.now w.first w.last c.args.i c.args.j asked h
      | inr h ↦ in_above w.bytes.now w.first w.last c.args.i c.args.j asked h.0 h.1
    ])

pub returns : goal.returns
returns c =
    let w = c.args.w in
    sym (in_inside w.bytes.now w.first w.last c.args.i c.args.j (sym c.in_ok-p.ensures) c.if-i-w.false c.if-w-j.false)
