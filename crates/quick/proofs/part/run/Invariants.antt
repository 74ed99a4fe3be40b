-- `quick::part::run` meets its contract. The loop's invariant: the state is that after the first m bytes.
-- Assumes nothing.
use mathlib.Core.Path.{◌≡◌}
use Rattle.scan.proofs.Laws.{scanned}
use Rattle.quick.proofs.part.run.Given as goal

abbrev pub invariant-loop-m : goal.invariant-loop-m
invariant-loop-m l = l.here ≡ scanned l.initial.here l.at l.part l.m
