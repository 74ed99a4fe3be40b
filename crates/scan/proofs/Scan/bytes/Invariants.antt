-- `scan::Scan::bytes`: the state is that after the first k bytes.
use mathlib.Core.Path.{◌≡◌}
use Prim.Native.Nat.{◌-◌, ◌≤◌}
use lib.ListN.{length}
use Rattle.scan.proofs.Laws.{scanned}
use Rattle.scan.proofs.Scan.bytes.Given as goal

abbrev pub invariant-loop-k : goal.invariant-loop-k
invariant-loop-k l = (l.k ≤ length l.part) × (l.st ≡ scanned l.fn.self l.at l.part l.k)

abbrev pub decreases-loop-k : goal.decreases-loop-k
decreases-loop-k l = length l.part - l.k
