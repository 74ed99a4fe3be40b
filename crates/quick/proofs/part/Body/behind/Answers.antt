-- `quick::part::Body::behind` meets its contract: the byte of the closing, then whole bytes to the block's end.
-- Assumes nothing.
use native.Mathlib.Omega.{arith}
use Prim.Native.Nat.{◌+◌, ◌-◌, ◌/◌}
use Rattle.quick.proofs.Closings.{byte-begun, here-ready, behind_all, ready_part, part_length}
use Rattle.quick.proofs.part.Body.behind.Goals as goal

pub run-requires : goal.run-requires
run-requires c =
    let a = c.args in
    let w = c.end_of-end.result - (a.from.place / 8 + 1) in
    let at = c.requires.1 in
    let here = byte-begun c.start.ensures c.behind-here.ensures in
    (ready_part w (a.from.place / 8 + 1) a.self.bytes.now (omega arith) (here-ready a.self a.from a.k at c.behind-here.result here), omega (arith, part_length w (a.from.place / 8 + 1) a.self.bytes.now))

pub returns : goal.returns
returns c =
    let a = c.args in
    behind_all a.self a.from a.k c.requires.1 c.behind-here.result (byte-begun c.start.ensures c.behind-here.ensures) a.stop c.end_of-end.result c.run.result c.end_of-end.ensures c.run.ensures
