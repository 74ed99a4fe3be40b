-- `quick::part::run` meets its contract: the state is that after the first m bytes, all of them or as many as it took.
-- Assumes nothing.
use mathlib.Core.Path.{ap, ◌∙◌}
use mathlib.Core.Logic.{inl, inr}
use Prim.Native.Nat.{◌+◌, ◌*◌}
use native.Mathlib.Omega.{arith}
use lib.ListN.{get_or}
use Rattle.rules.specs.Bytes.{low_bits}
use Rattle.scan.specs.declared.Scan.{Scan}
use Rattle.scan.specs.Scan.{scan_of}
use Rattle.scan.proofs.Laws.{ready_same, scanned, scanned_none, scanned-ready, scanned-more}
use Rattle.quick.proofs.part.run.Goals as goal

pub loop-m-init : goal.loop-m-init
loop-m-init c = scanned_none c.args.st c.args.at c.args.part.now

pub returns-then-here-stop : goal.returns-then-here-stop
unfolding scanned
returns-then-here-stop c =
    record { count = c.loop-m.m; some = omega arith; read = c.loop-m.invariant; done = inr c.if-here-stop.true }

pub byte-here-requires : goal.byte-here-requires
byte-here-requires c =
    (ready_same 8 c.loop-m.invariant (scanned-ready c.args.st c.args.at c.loop-m.m 1 c.args.part.now (omega arith) c.requires.0), omega arith)

pub loop-m-preserved : goal.loop-m-preserved
loop-m-preserved c =
    c.byte-here.ensures ∙ ap (λ (st : Scan). scan_of st (c.args.at + 8 * c.loop-m.m) (low_bits 8 (get_or c.args.part.now c.loop-m.m 0))) c.loop-m.invariant ∙ scanned-more c.args.st c.args.at c.loop-m.m c.args.part.now (omega arith)

pub returns : goal.returns
unfolding scanned
returns c =
    record { count = c.loop-m.m; some = omega arith; read = c.loop-m.invariant; done = inl (omega arith) }
