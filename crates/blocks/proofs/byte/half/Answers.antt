-- `blocks::byte::half` meets its contract: the closing is among the four lowest bits, or in the four above them.
-- Assumes nothing.
use native.Mathlib.Omega.{arith}
use Rattle.blocks.proofs.Bits.{leads, leads_low}
use Rattle.blocks.proofs.byte.half.Goals as goal

pub returns-then-n-c : goal.returns-then-n-c
returns-then-n-c c = leads_low 4 8 c.args.n (omega arith) (omega arith)

pub returns : goal.returns
returns c =
    let n = c.args.n in
    rw c.count-c.ensures (leads 4 4 8 n (omega arith) (omega arith) (omega arith))
