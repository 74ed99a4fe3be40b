-- `summary::blocks` meets its contract. The loop's invariant: the first k blocks are laid, and their closings passed.
-- Assumes nothing.
use mathlib.Core.Path.{◌≡◌}
use Rattle.rules.specs.Bytes.{parens}
use Rattle.summary.specs.Laid.{Lays, closed}
use Rattle.summary.proofs.blocks.Given as goal

abbrev pub invariant-loop-k : goal.invariant-loop-k
invariant-loop-k l = (l.passed ≡ closed (parens l.checked.entries l.checked.bytes.now) l.k) × Lays (parens l.checked.entries l.checked.bytes.now) 0 l.k l.initial.slots l.slots
