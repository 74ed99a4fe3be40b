-- Document 01, "The summary": 896 sixteen-bit numbers beside a record. Blocks are 256 parentheses; the last may be short, and only real
-- parentheses count. A slot with no such block, or no such closing, has 65,535; so does a leaf with no block.
use Rattle.std.specs.Prelude.{◌≡◌, ◌⊎◌, ℕ, zero, suc, min, ◌+◌, ◌-◌, ◌*◌, ◌/◌, ◌≤◌, cond, List, [], ◌∷◌, ◌++◌, ltb, leb, eqb, length, take, drop, get_or}
use Rattle.rules.specs.Shape.{Paren}
use Rattle.rules.specs.Excess.{closings, closing_place, excesses, list_of}
use Rattle.rules.specs.Bytes.{record_length, entries, parens}
use Rattle.rules.specs.Refusal.{Outcome, answer, refusal, unless_refused, afterwards}
use Rattle.rules.specs.Order.{frame_says, check_says, ask_says}

abbrev pub slots : ℕ
slots = 896

abbrev pub none : ℕ
none = 65535

-- the blocks of a record of n entries
abbrev pub blocks_for : ℕ → ℕ
blocks_for n = (2 * n + 255) / 256

-- the excesses after the parentheses of block k
unfoldable pub in_block : List Paren → ℕ → List ℕ
in_block s k = take 256 (drop (256 * k) (excesses 0 s))

-- the last and the smallest of some excesses
unfoldable pub last_of : List ℕ → ℕ
last_of [] = none
last_of (x ∷ []) = x
last_of (x ∷ y ∷ xs) = last_of (y ∷ xs)

unfoldable pub smallest_of : List ℕ → ℕ
smallest_of [] = none
smallest_of (x ∷ xs) = min x (smallest_of xs)

-- 0 to 255: the excess after block k
unfoldable pub block_end : List Paren → ℕ → ℕ
block_end s k = last_of (in_block s k)

-- leaf 256 + k of the tree: the smallest excess after any parenthesis of block k
unfoldable pub leaf : List Paren → ℕ → ℕ
leaf s k = smallest_of (in_block s k)

-- node v has the smaller of nodes 2v and 2v + 1, down to the leaves; eight halvings reach them from any node. `node-halves` and `node-leaf`
-- (proofs/Summary) have no count.
unfoldable pub node_of : ℕ → List Paren → ℕ → ℕ
node_of zero s v = leaf s (v - 256)
node_of (suc h) s v =
    cond (leb 256 v) (leaf s (v - 256)) (min (node_of h s (2 * v)) (node_of h s (2 * v + 1)))

unfoldable pub node : List Paren → ℕ → ℕ
node s v = node_of 8 s v

-- 768 + t: the block in which closing number 256t stands
unfoldable pub closing_block : List Paren → ℕ → ℕ
closing_block s t = cond (ltb (256 * t) (closings s)) (closing_place s (256 * t) / 256) none

-- slot 256 itself is 65,535
unfoldable pub slot : List Paren → ℕ → ℕ
slot s x =
    cond (ltb x 256) (block_end s x)
    (cond (eqb x 256) none (cond (ltb x 768) (node s (x - 256)) (closing_block s (x - 768))))

unfoldable pub summary_of : List Paren → List ℕ
summary_of s = list_of slots (λ x. slot s x)

-- ---- Fill: record check, 3. It says n, as the check does. A longer slice keeps what follows the 896 numbers.

unfoldable pub fill_says : List ℕ → ℕ → Outcome
fill_says r m = unless_refused (check_says r) (λ n. cond (ltb m slots) (refusal 3) (answer n))

unfoldable pub summary_after : List ℕ → List ℕ → List ℕ
summary_after r t = afterwards (fill_says r (length t)) (summary_of (parens (entries r) r) ++ drop slots t) t

-- ---- Quick ask: frame, 11, 3, 8, then an answer or 9

unfoldable pub quick_checks : List ℕ → ℕ → ℕ → ℕ → Outcome
quick_checks r m i j =
    unless_refused (frame_says r)
    (λ n. cond (ltb (record_length n) (length r)) (refusal 11)
    (cond (ltb m slots) (refusal 3) (cond (ltb j i) (refusal 8) (cond (ltb j n) (answer n) (refusal 8)))))

-- some place from i to j, or 9
abbrev pub Allowed : ℕ → ℕ → Outcome → Type 0
Allowed i j (answer q) = (i ≤ q) × (q ≤ j)
Allowed i j (refusal k) = k ≡ 9

-- a slot names a block the record hasn't got: 65,535 among them
abbrev pub IsStrange : List ℕ → ℕ → ℕ → Type 0
IsStrange t n i = blocks_for n ≤ get_or t (768 + i / 256) 0

-- what may be said. The four fields fix it but where the summary is foreign (docs/EXCEPTIONS.md).
pub record QuickSays (r t : List ℕ) (i j : ℕ) (o : Outcome) : Type 0 where
  pub refused : (k : ℕ) → quick_checks r (length t) i j ≡ refusal k → o ≡ refusal k
  pub allowed : (n : ℕ) → quick_checks r (length t) i j ≡ answer n → Allowed i j o
  pub named : (n : ℕ) → quick_checks r (length t) i j ≡ answer n → IsStrange t n i ⊎ IsStrange t n j → o ≡ refusal 9
  pub right : (n : ℕ) → check_says r ≡ answer n → take slots t ≡ summary_of (parens n r) → o ≡ ask_says r i j
