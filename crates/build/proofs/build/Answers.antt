-- `build::build` meets its contract: three refusals, in the document's order, or the three parts of the work. Assumes nothing.
use native.Mathlib.Omega.{arith}
use mathlib.Core.Path.{◌≡◌, ◌∙◌}
use lib.ListN.{length, take}
use lib.Seq.{length-take-le}
use Rattle.build.proofs.Building.{too_many, output_short, work_short, built}
use Rattle.build.proofs.build.Goals as goal

pub returns-then-n-gt32768 : goal.returns-then-n-gt32768
returns-then-n-gt32768 c = too_many _ _ _ c.if-n-gt32768.true

pub returns-then-out-size : goal.returns-then-out-size
returns-then-out-size c = output_short _ _ _ c.if-n-gt32768.false (omega arith)

pub returns-then-work-n : goal.returns-then-work-n
returns-then-work-n c = work_short _ _ _ c.if-n-gt32768.false (omega arith) c.if-work-n.true

pub returns : goal.returns
returns c =
    let places : length (take (length c.args.column.now) c.args.work.now) ≡ length c.args.column.now = length-take-le _ _ c.if-work-n.false in
    built c.if-n-gt32768.false (omega arith) c.if-work-n.false (omega arith) c.body.ensures (rw (c.body.auto.work ∙ places) at (c.fill.ensures.after (λ y e. e))) c.head.ensures
