-- `quick::part::last` meets its contract: by the excess before the byte, and its bits.
-- Assumes nothing.
use native.Mathlib.Omega.{arith}
use Rattle.quick.proofs.Reaching.{ends_there}
use Rattle.quick.proofs.part.last.Goals as goal

pub returns : goal.returns
returns c =
    let a = c.args in
    ends_there a.here a.at a.b a.j c.nth.result c.upto.result (omega (arith, rw (c.from.ensures, c.in-Some.ensures.1) at c.nth.ensures)) c.upto.ensures
