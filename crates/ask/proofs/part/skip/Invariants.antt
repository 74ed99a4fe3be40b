-- `ask::part::skip` meets its contract. The loop's invariant: c closings are among the first m eights of bytes, and the closing is not.
-- Assumes nothing.
use mathlib.Core.Path.{◌≡◌}
use Prim.Native.Nat.{◌*◌, ◌≤◌}
use Rattle.ask.proofs.Seek.{passed}
use Rattle.ask.proofs.part.skip.Given as goal

abbrev pub invariant-loop-m : goal.invariant-loop-m
invariant-loop-m l = (l.closings ≡ passed l.part (8 * l.m)) × (l.closings ≤ l.k)
