-- `quick::part::Body::within` meets its contract: both closings in one byte, or the first one's byte, whole bytes, and the last one's.
-- Assumes nothing.
use native.Mathlib.Omega.{arith}
use Prim.Native.Nat.{◌+◌, ◌-◌, ◌/◌, ◌%◌}
use Rattle.quick.proofs.Closings.{byte-begun, bits-begun, here-ready, from-within, within-stopped, within-through, runs_ready, ready_part, part_length}
use Rattle.quick.proofs.part.Body.within.Goals as goal

pub returns-then-from-q : goal.returns-then-from-q
returns-then-from-q c =
    let a = c.args in
    from-within a.self a.from a.k c.requires.1 a.y a.stop c.within.result c.if-from-q.true c.requires.3 (bits-begun (a.y % 8 + 1) c.start-start.ensures c.within.ensures)

pub run-mid-requires : goal.run-mid-requires
run-mid-requires c =
    let a = c.args in
    let w = a.y / 8 - (a.from.place / 8 + 1) in
    let at = c.requires.1 in
    let to = c.requires.2 in
    let here = byte-begun c.start-start.ensures c.behind.ensures in
    (ready_part w (a.from.place / 8 + 1) a.self.bytes.now (omega arith) (here-ready a.self a.from a.k at c.behind.result here), omega (arith, part_length w (a.from.place / 8 + 1) a.self.bytes.now))

pub returns-then-mid-stop : goal.returns-then-mid-stop
returns-then-mid-stop c =
    let a = c.args in
    within-stopped a.self a.from a.k c.requires.1 c.behind.result (byte-begun c.start-start.ensures c.behind.ensures) a.y a.stop c.run-mid.result c.requires.2 (omega arith) c.run-mid.ensures c.if-mid-stop.true

pub upto-requires : goal.upto-requires
upto-requires c =
    let a = c.args in
    let at = c.requires.1 in
    let to = c.requires.2 in
    let here = byte-begun c.start-start.ensures c.behind.ensures in
    (runs_ready (omega (arith, part_length (a.y / 8 - (a.from.place / 8 + 1)) (a.from.place / 8 + 1) a.self.bytes.now)) (here-ready a.self a.from a.k at c.behind.result here) c.run-mid.ensures, omega arith, omega arith, omega arith)

pub returns : goal.returns
returns c =
    let a = c.args in
    within-through a.self a.from a.k c.requires.1 c.behind.result (byte-begun c.start-start.ensures c.behind.ensures) a.y a.stop c.run-mid.result c.requires.2 (omega arith) c.run-mid.ensures c.upto.result c.if-mid-stop.false c.upto.ensures
