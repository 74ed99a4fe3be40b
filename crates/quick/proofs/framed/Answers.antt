-- `quick::framed` meets its contract: each test is one of the checks behind the frame, in their order.
-- Assumes nothing.
use mathlib.Core.Path.{refl}
use Rattle.answers.specs.Said.{said}
use Rattle.quick.proofs.Framing.{asked_within}
use Rattle.quick.proofs.framed.Goals as goal

pub returns : goal.returns
returns c =
    let a = c.args in
    asked_within a.bytes.now a.numbers.now a.n a.i a.j c.if-n-bytes.false c.if-numbers-lt896.false _ (said c.found.result) refl refl c.if-j-i.false c.if-n-j.false c.found.ensures
