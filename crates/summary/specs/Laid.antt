-- The slots on the way to a summary: what stands in them while the blocks are read and while the tree grows.
use Rattle.std.specs.Prelude.{◌≡◌, ℕ, ◌+◌, ◌-◌, ◌*◌, ◌/◌, ◌<◌, cond, List, ltb, length, take, get_or, set}
use Rattle.rules.specs.Shape.{Paren}
use Rattle.rules.specs.Excess.{closings, closing_place}
use Rattle.rules.specs.Summary.{slots, none, block_end, leaf, slot}
use Rattle.scan.specs.declared.Scan.{Scan}

-- the 896 numbers t are f's
pub record Holds (f : ℕ → ℕ) (t : List ℕ) : Type 0 where
  pub size : length t ≡ slots
  pub first : (x : ℕ) → x < slots → get_or t x 0 ≡ f x

-- ---- block by block

-- the ends of the first a blocks, the leaves of the first l, and the blocks of those of the first c closings that have a slot
unfoldable pub laid : List Paren → ℕ → ℕ → ℕ → ℕ → ℕ
laid s a l c x =
    cond (ltb x 256) (cond (ltb x a) (block_end s x) none)
    (cond (ltb x 512) none
    (cond (ltb x 768) (cond (ltb (x - 512) l) (leaf s (x - 512)) none)
    (cond (ltb (256 * (x - 768)) c) (closing_place s (256 * (x - 768)) / 256) none)))

-- the closings before block k
abbrev pub closed : List Paren → ℕ → ℕ
closed s k = closings (take (256 * k) s)

-- all that the first k blocks give
abbrev pub laid_to : List Paren → ℕ → ℕ → ℕ
laid_to s k x = laid s k k (closed s k) x

-- from the first j blocks to the first k
pub record Lays (s : List Paren) (j k : ℕ) (t t' : List ℕ) : Type 0 where
  pub holds : Holds (laid_to s j) t → Holds (laid_to s k) t'

-- the scan of a block starts at the excess before it, with a smallest above every excess
abbrev pub fresh_at : ℕ → Scan
fresh_at x = record { excess = x; smallest = 65536 + none; place = 0 }

-- one block's numbers: its end e, its smallest excess m, and k itself where one of the closings c to d - 1 has a slot
abbrev pub noted : List ℕ → ℕ → ℕ → ℕ → ℕ → ℕ → List ℕ
noted t k c d e m =
    cond (ltb (256 * ((c + 255) / 256)) d) (set (set (set t k e) (512 + k) m) (768 + (c + 255) / 256) k)
    (set (set t k e) (512 + k) m)

-- ---- node by node

-- everything but the nodes 1 to v
unfoldable pub grown_to : List Paren → ℕ → ℕ → ℕ
grown_to s v x = cond (ltb 256 x) (cond (ltb x (257 + v)) none (slot s x)) (slot s x)

-- from the nodes 1 to 255 to the nodes 1 to v, whatever the summary
pub record Grows (v : ℕ) (t t' : List ℕ) : Type 0 where
  pub holds : (s : List Paren) → Holds (grown_to s 255) t → Holds (grown_to s v) t'
