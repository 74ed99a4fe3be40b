-- `quick::Lent::found` meets its contract: 9 where a block is not there or the two are crossed, else what is found from one to the other.
-- Assumes nothing.
use native.Mathlib.Nat.{le_refl}
use Rattle.answers.specs.Said.{said}
use Rattle.quick.proofs.Foreign.{was_some, was_none}
use Rattle.quick.proofs.Naming.{missing, crossed, spanned}
use Rattle.quick.proofs.Lent.found.Goals as goal

pub returns-in_err-a : goal.returns-in_err-a
returns-in_err-a c =
    let a = c.args in
    let (none, foreign) = was_none c.block.result c.in_err-a.field-0.0 c.from_residual.result c.in_err-a.ensures.value c.from_residual.ensures.1 in
    rw foreign (missing a.self.now a.n a.i a.j c.requires.1 c.requires.2 a.i c.requires.1 (rw none at c.block.ensures))

pub returns-in_err-b : goal.returns-in_err-b
returns-in_err-b c =
    let a = c.args in
    let (none, foreign) = was_none c.block-2.result c.in_err-b.field-0.0 c.from_residual-in_err-b.result c.in_err-b.ensures.value c.from_residual-in_err-b.ensures.1 in
    rw foreign (missing a.self.now a.n a.i a.j c.requires.1 c.requires.2 a.j (le_refl _) (rw none at c.block-2.ensures))

pub returns-then-b-a : goal.returns-then-b-a
returns-then-b-a c =
    let a = c.args in
    let first = was_some c.block.result c.in_ok-a.a c.in_ok-a.ensures.value in
    let last = was_some c.block-2.result c.in_ok-b.b c.in_ok-b.ensures.value in
    crossed a.self.now a.n a.i a.j c.requires.1 c.requires.2 c.in_ok-a.a c.in_ok-b.b (rw first at c.block.ensures) (rw last at c.block-2.ensures) c.if-b-a.true

pub returns : goal.returns
returns c =
    let first = was_some c.block.result c.in_ok-a.a c.in_ok-a.ensures.value in
    let last = was_some c.block-2.result c.in_ok-b.b c.in_ok-b.ensures.value in
    spanned _ c.args.n (said c.between.result) c.requires.2 (rw first at c.block.ensures) (rw last at c.block-2.ensures) c.between.ensures
