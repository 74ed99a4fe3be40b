-- `checks::in_balance` meets its contract: what the scan of the whole record ends in says whether it is balanced.
-- Assumes nothing.
use mathlib.Core.Path.{sym}
use native.Mathlib.Omega.{arith}
use Rattle.checks.proofs.Through.{ready_last, through}
use Rattle.checks.proofs.in_balance.Goals as goal

pub byte-end-requires : goal.byte-end-requires
byte-end-requires c =
    (ready_last c.args.bytes.now c.args.n c.requires.0 c.requires.1 c.bytes-front.result c.bytes-front.ensures, omega arith)

pub returns-then-end-lt-GROUND : goal.returns-then-end-lt-GROUND
returns-then-end-lt-GROUND c =
    sym ((through c.args.bytes.now c.args.n c.requires.0 c.requires.1 c.bytes-front.result c.byte-end.result c.opened-tail.result c.bytes-front.ensures c.opened-tail.ensures c.byte-end.ensures).0 c.if-end-lt-GROUND.true)

pub returns : goal.returns
returns c =
    sym ((through c.args.bytes.now c.args.n c.requires.0 c.requires.1 c.bytes-front.result c.byte-end.result c.opened-tail.result c.bytes-front.ensures c.opened-tail.ensures c.byte-end.ensures).1 c.if-end-lt-GROUND.false)
