-- The climb's keys: 16 times a number of the tree, and a rank below 16 that tells nodes of equal number apart, left to right. A node
-- passed from block a at level h has rank h; one passed from block b stands right of all those, and has rank 15 - h.
use Rattle.std.specs.Prelude.{ℕ, ◌+◌, ◌-◌, ◌*◌, ◌/◌, ◌%◌, ◌^◌, cond, List, ltb}
use Rattle.tree.specs.declared.Best.{Best}
use Rattle.tree.specs.Tree.{at}

-- 65,536 more, for a node that is out, puts a key above that of any node that is not
abbrev pub key_of : List ℕ → ℕ → ℕ → ℕ → ℕ
key_of t v out rank = 16 * (at t v + 65536 * out) + rank

-- the rank of a node passed from b at a level, and back; no level passed is above 7
abbrev pub right_rank : ℕ → ℕ
right_rank h = 15 - h

abbrev pub right_level : ℕ → ℕ
right_level rank = 15 - rank

-- the keys at node l over block a and at node r over block b: the inner neighbour's, out where it has another parent
abbrev pub left_key : List ℕ → ℕ → ℕ → ℕ
left_key t l h = key_of t (l + 1 - l % 2) (l % 2) h

abbrev pub right_key : List ℕ → ℕ → ℕ → ℕ
right_key t r h = key_of t (r - r % 2) (1 - r % 2) (right_rank h)

-- the node with key k, by the node from which it was passed
abbrev pub left_of : ℕ → ℕ → Best
left_of a k = record { low = k / 16; node = (256 + a) / 2 ^ (k % 16) + 1; level = k % 16 }

abbrev pub right_of : ℕ → ℕ → Best
right_of b k =
    record { low = k / 16; node = (256 + b) / 2 ^ right_level (k % 16) - 1; level = right_level (k % 16) }

abbrev pub best_of : ℕ → ℕ → ℕ → Best
best_of a b k = cond (ltb (k % 16) 8) (left_of a k) (right_of b k)
