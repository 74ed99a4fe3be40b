-- Places go from the stack's end, one by one, while their entries are not below a.
-- Assumes nothing.
use Prim.Native.Nat.{ℕ, ◌≤◌, ◌<◌}
use mathlib.Core.List.{List}
use Rattle.build.specs.declared.spine.Spine.{Spine}
use Rattle.build.specs.Stack.{entry_at}

pub record Pops (c : List ℕ) (q : Spine) (a k : ℕ) : Type 0 where
  pub within : k ≤ q.height
  pub popped : (j : ℕ) → k ≤ j → j < q.height → a ≤ entry_at c q.places.now j
