-- `ask::part::skip` meets its contract. The loop's invariant: c closings are among the first m eights of bytes, and the closing is not.
-- Assumes nothing.
use mathlib.Core.Path.{◌≡◌}
use Prim.Native.Nat.{◌+◌, ◌*◌}
use native.Mathlib.Omega.{arith}
use Rattle.ask.proofs.Found.{passed_none, passed-eight, passed_few}
use Rattle.ask.proofs.part.skip.Goals as goal

pub loop-m-init : goal.loop-m-init
loop-m-init c = (passed_none c.args.part.now, omega arith)

pub overflow_add-next : goal.overflow_add-next
overflow_add-next c =
    let bs = c.args.part.now in
    let k = 8 * c.loop-m.m in
    omega (arith, c.loop-m.invariant.0, c.closings.ensures, passed-eight bs k, passed_few bs (k + 8) (omega arith))

pub loop-m-preserved : goal.loop-m-preserved
loop-m-preserved c =
    let bs = c.args.part.now in
    let k = 8 * c.loop-m.m in
    let e : 8 * (c.loop-m.m + 1) ≡ k + 8 = omega arith in
    rw e (omega (arith, c.loop-m.invariant.0, c.closings.ensures, passed-eight bs k), omega arith)
