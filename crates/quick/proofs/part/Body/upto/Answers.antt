-- `quick::part::Body::upto` meets its contract: byte by byte, to the byte of the closing.
-- Assumes nothing.
use native.Mathlib.Omega.{arith}
use Rattle.quick.proofs.Reaching.{reach_none, next_ready, walks_on, reach_found}
use Rattle.quick.proofs.part.Body.upto.Goals as goal

pub overflow_add-j-in-loop-m : goal.overflow_add-j-in-loop-m
overflow_add-j-in-loop-m c =
    let a = c.args in
    let high = (next_ready a.self a.k a.j a.st c.loop-m.m c.loop-m.here c.loop-m.invariant (omega arith) c.byte-next.result c.byte-next.ensures).high in
    omega arith

pub returns-then-j-next : goal.returns-then-j-next
returns-then-j-next c =
    let a = c.args in
    reach_found a.self a.k a.j a.st c.loop-m.m c.loop-m.here c.loop-m.invariant (omega arith) c.byte-next.result c.byte-next.ensures a.stop c.last.result (omega (arith, c.if-j-next.true)) c.last.ensures

pub loop-m-preserved : goal.loop-m-preserved
loop-m-preserved c =
    let a = c.args in
    walks_on a.self a.k a.j a.st c.loop-m.m c.loop-m.here c.loop-m.invariant (omega arith) c.byte-next.result c.byte-next.ensures (omega arith)

pub returns : goal.returns
returns c = let a = c.args in reach_none a.self a.k a.j a.st c.loop-m.m c.loop-m.here c.loop-m.invariant a.stop (omega arith)
