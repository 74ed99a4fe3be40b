-- The stack of places in the work: the first numbers, each the place of an entry of the column.
use Rattle.std.specs.Prelude.{ℕ, suc, ◌≤◌, ◌<◌, ◌≡◌, List, length, get_or}
use Rattle.build.specs.declared.spine.Spine.{Spine}

-- the entry whose place stands at j in the work
abbrev pub entry_at : List ℕ → List ℕ → ℕ → ℕ
entry_at c w j = get_or c (get_or w j 0) 0

-- the places of a spine are entries' places, and its topmost entry is at hand
pub record Stacked (c : List ℕ) (q : Spine) : Type 0 where
  pub fits : q.height ≤ length q.places.now
  pub places : (j : ℕ) → j < q.height → get_or q.places.now j 0 < length c
  pub last : (j : ℕ) → suc j ≡ q.height → entry_at c q.places.now j ≡ q.top

-- of its places k stay when a comes: those above have entries of a or more, and the topmost that stays has a smaller one
pub record Keeps (c : List ℕ) (q : Spine) (a k : ℕ) : Type 0 where
  pub within : k ≤ q.height
  pub popped : (j : ℕ) → k ≤ j → j < q.height → a ≤ entry_at c q.places.now j
  pub stays : (j : ℕ) → suc j ≡ k → entry_at c q.places.now j < a
