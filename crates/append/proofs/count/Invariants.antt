-- `append::count` meets its contract. The loop's invariant: the count from this place on, begun at k, is the count of all; k is at
-- most the place. The measure is what is left of the bytes. Assumes nothing.
use mathlib.Core.Path.{◌≡◌}
use Prim.Native.Nat.{◌-◌, ◌≤◌}
use lib.ListN.{length}
use Rattle.rules.specs.Drawer.{records_in}
use Rattle.rules.proofs.Drawer.{records}
use Rattle.append.proofs.count.Given as goal

abbrev pub invariant-loop-at : goal.invariant-loop-at
invariant-loop-at l = (l.at ≤ length l.bytes) × (l.k ≤ l.at) × (records l.bytes l.at l.k ≡ records_in l.bytes)

abbrev pub decreases-loop-at : goal.decreases-loop-at
decreases-loop-at l = length l.bytes - l.at
