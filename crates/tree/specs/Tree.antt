-- Document 01, "The summary": slots 256 + v, for v from 1 to 511, are a tree, and leaf 256 + k is block k. Nothing here asks where the
-- numbers come from; what a search comes down to is right where every node is the smaller of its halves.
use Rattle.std.specs.Prelude.{◌≡◌, ℕ, min, ◌+◌, ◌*◌, ◌^◌, ◌≤◌, ◌<◌, List, get_or}
use Rattle.tree.specs.declared.Best.{Best}

-- the number of node v, and of the leaf of block k
abbrev pub at : List ℕ → ℕ → ℕ
at t v = get_or t (256 + v) 0

abbrev pub leaf : List ℕ → ℕ → ℕ
leaf t k = at t (256 + k)

-- node v has the smaller of nodes 2v and 2v + 1
pub record Halves (t : List ℕ) : Type 0 where
  pub node : (v : ℕ) → 1 ≤ v → v < 256 → at t v ≡ min (at t (2 * v)) (at t (2 * v + 1))

-- the leaves under node v, h levels down, stand from leaf f up to before leaf e
pub record Within (v h f e : ℕ) : Type 0 where
  pub first : f ≤ v * 2 ^ h
  pub last : (v + 1) * 2 ^ h ≤ e

-- block x is one of them
pub record Under (v h x : ℕ) : Type 0 where
  pub first : v * 2 ^ h ≤ 256 + x
  pub last : 256 + x < (v + 1) * 2 ^ h

-- w is the half of node v with the smaller number, the left one where both have the same
pub data Half (t : List ℕ) (v w : ℕ) : Type 0 where
  left : w ≡ 2 * v → at t (2 * v) ≤ at t (2 * v + 1) → Half t v w
  right : w ≡ 2 * v + 1 → at t (2 * v + 1) < at t (2 * v) → Half t v w

-- block r, which the descent from node v, h levels above the leaves, comes to: under v, and the leftmost of those with v's number
pub record Descended (t : List ℕ) (v h r : ℕ) : Type 0 where
  pub under : Under v h r
  pub lowest : Halves t → leaf t r ≡ at t v
  pub leftmost : Halves t → (x : ℕ) → v * 2 ^ h ≤ 256 + x → x < r → leaf t r < leaf t x

-- a node under which only leaves from f up to before e stand, with its number: no leaf of these is lower, and those to its left are higher
pub record Held (t : List ℕ) (f e : ℕ) (b : Best) : Type 0 where
  pub within : Within b.node b.level f e
  pub level : b.level ≤ 8
  pub number : b.low ≡ at t b.node
  pub bound : b.low ≤ 65535
  pub lowest : Halves t → (x : ℕ) → f ≤ 256 + x → 256 + x < e → b.low ≤ leaf t x
  pub leftmost : Halves t → (x : ℕ) → f ≤ 256 + x → 256 + x < b.node * 2 ^ b.level → b.low < leaf t x

-- the same of the blocks between a and b, both left out; 65,536, above any number of the tree, where there is none
pub record Between (t : List ℕ) (a b : ℕ) (best : Best) : Type 0 where
  pub none : b ≡ a + 1 → best.low ≡ 65536
  pub some : a + 1 < b → Held t (257 + a) (256 + b) best

-- r is the number of a node that stands over both a and b
pub record Over (t : List ℕ) (a b r : ℕ) : Type 0 where
  pub node : ℕ
  pub level : ℕ
  pub within : Within node level 256 512
  pub over_a : Under node level a
  pub over_b : Under node level b
  pub number : r ≡ at t node
  pub bound : r ≤ 65535
  pub lowest : Halves t → (x : ℕ) → a ≤ x → x ≤ b → r ≤ leaf t x
