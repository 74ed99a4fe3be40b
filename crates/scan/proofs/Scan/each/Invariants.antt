-- `scan::Scan::each`: the state is that after the first k bytes.
use mathlib.Core.Path.{◌≡◌}
use Rattle.scan.proofs.Laws.{scanned}
use Rattle.scan.proofs.Scan.each.Given as goal

abbrev pub invariant-loop-k : goal.invariant-loop-k
invariant-loop-k l = l.st ≡ scanned l.fn.self l.at l.part l.k
