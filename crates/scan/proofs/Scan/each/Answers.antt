-- `scan::Scan::each` meets its contract: byte by byte, the state of the bytes so far.
-- Assumes nothing.
use mathlib.Core.Path.{ap, ◌∙◌}
use Prim.Native.Nat.{◌+◌, ◌*◌}
use native.Mathlib.Omega.{arith}
use lib.ListN.{get_or}
use Rattle.rules.specs.Bytes.{low_bits}
use Rattle.scan.specs.declared.Scan.{Scan}
use Rattle.scan.specs.Scan.{scan_of}
use Rattle.scan.proofs.Laws.{ready_same, scanned_none, scanned_all, scanned-ready, scanned-more}
use Rattle.scan.proofs.Scan.each.Goals as goal

pub loop-k-init : goal.loop-k-init
loop-k-init c = scanned_none c.args.self c.args.at c.args.part.now

pub byte-st-requires : goal.byte-st-requires
byte-st-requires c =
    (ready_same 8 c.loop-k.invariant (scanned-ready c.args.self c.args.at c.loop-k.k 1 c.args.part.now (omega arith) c.requires.0), omega arith)

pub loop-k-preserved : goal.loop-k-preserved
loop-k-preserved c =
    c.byte-st.ensures ∙ ap (λ (st : Scan). scan_of st (c.args.at + 8 * c.loop-k.k) (low_bits 8 (get_or c.args.part.now c.loop-k.k 0))) c.loop-k.invariant ∙ scanned-more c.args.self c.args.at c.loop-k.k c.args.part.now (omega arith)

pub returns : goal.returns
returns c =
    c.loop-k.invariant ∙ scanned_all c.args.self c.args.at c.loop-k.k c.args.part.now (omega arith)
