-- `ask::ask` meets its contract: a refusal of the check is passed on, then come the two tests of 8, and behind them the answer.
-- Assumes nothing.
use mathlib.Core.Path.{ap, sym, ◌∙◌}
use Rattle.std.proofs.Common.{inl, inr}
use Rattle.rules.specs.Refusal.{answer}
use Rattle.answers.proofs.Said.{said_on}
use Rattle.ask.proofs.Says.{ask-refused, ask_crossed, ask_outside, ask-answered}
use Rattle.ask.proofs.ask.Goals as goal

pub returns-in_err-checked : goal.returns-in_err-checked
returns-in_err-checked c =
    said_on c.from_residual.result c.in_err-checked.field-0.0 c.from_residual.ensures.1
    ∙ sym (ask-refused c.args.bytes.now c.args.i c.args.j (sym c.in_err-checked.ensures.says))

pub returns-then-j-i : goal.returns-then-j-i
returns-then-j-i c =
    let a = c.args in
    let says = sym c.in_ok-checked.ensures.says in
    sym (elim c.then-j-i.either [ inl h ↦ ask_crossed a.bytes.now a.i a.j says h | inr h ↦ ask_outside a.bytes.now a.i a.j says h.0 h.1 ])

pub returns : goal.returns
returns c =
    ap answer (rw c.in_ok-checked.ensures.keeps at c.between.ensures)
    ∙ sym (ask-answered c.args.bytes.now c.args.i c.args.j (sym c.in_ok-checked.ensures.says) c.if-j-i.false c.if-checked-j.false)
