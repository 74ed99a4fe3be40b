-- The summary's numbers slot by slot: the document's sentences with no count in them, and what each number says of the excesses.
-- Assumes nothing.
use mathlib.Core.Path.{◌≡◌, refl, ap, sym, ◌∙◌}
use Prim.Native.Nat.{ℕ, zero, suc, min, ◌+◌, ◌-◌, ◌*◌, ◌/◌, ◌^◌, ◌≤◌, ◌<◌}
use native.Mathlib.Nat.{pow-succ', min-eq_left}
use native.Mathlib.Decide.{dec_le}
use native.Mathlib.Omega.{arith}
use mathlib.Core.List.{List, [], ◌∷◌}
use borrow.Author.Tests.{lt-ltb, le-ltb, le-leb, lt-leb, ne_eqb}
use lib.ListN.{length, take, drop, get_or, length-take, length-drop, drop_of_length-le, take-append-drop}
use lib.Seq.{get_or-take, get_or-drop, take_all}
use Rattle.rules.specs.Shape.{Paren}
use Rattle.rules.specs.Excess.{openings, closings, closing_place, excess, excesses, Balanced}
use Rattle.rules.specs.Bytes.{most}
use Rattle.rules.specs.Summary.{slots, none, blocks_for, in_block, last_of, smallest_of, block_end, leaf, node_of, node, closing_block, slot, summary_of}
use Rattle.rules.proofs.Excess.{length-list_of, get_d_list_of, excesses-length, excesses_at, excesses-take, excesses-drop, openings-append, counts-length}

-- ---- 896 slots

pub summary-length : (s : List Paren) → length (summary_of s) ≡ 896
unfolding summary_of
summary-length s = length-list_of 896 (λ x. slot s x)

pub summary_at : (s : List Paren) (x : ℕ) → x < 896 → get_or (summary_of s) x 0 ≡ slot s x
unfolding summary_of
summary_at s x h = get_d_list_of 896 (λ x. slot s x) x 0 h

-- a slice that begins with them
pub filled_at : (t : List ℕ) (s : List Paren) → take slots t ≡ summary_of s → (x : ℕ) → x < 896 → get_or t x 0 ≡ slot s x
filled_at t s e x h =
    sym (get_or-take slots t x 0 h) ∙ ap (λ (l : List ℕ). get_or l x 0) e ∙ summary_at s x h

-- ---- their regions

pub slot_end : (s : List Paren) (k : ℕ) → k < 256 → slot s k ≡ block_end s k
unfolding slot
slot_end s k h = rw (lt-ltb k 256 h)

pub slot-nothing : (s : List Paren) → slot s 256 ≡ none
unfolding slot
slot-nothing s = refl

pub slot-node : (s : List Paren) (v : ℕ) → 1 ≤ v → v < 512 → slot s (256 + v) ≡ node s v
unfolding slot
slot-node s v h l =
    let e : 256 + v - 256 ≡ v = omega arith in
    rw (le-ltb (256 + v) 256 (omega arith), ne_eqb (256 + v) 256 (λ p. omega arith), lt-ltb (256 + v) 768 (omega arith), e)

pub slot-closing : (s : List Paren) (t : ℕ) → slot s (768 + t) ≡ closing_block s t
unfolding slot
slot-closing s t =
    let e : 768 + t - 768 ≡ t = omega arith in
    rw (le-ltb (768 + t) 256 (omega arith), ne_eqb (768 + t) 256 (λ p. omega arith), le-ltb (768 + t) 768 (omega arith), e)

-- ---- the tree

pub node-leaf : (s : List Paren) (v : ℕ) → 256 ≤ v → node s v ≡ leaf s (v - 256)
unfolding node node_of
node-leaf s v h = rw (le-leb 256 v h)

-- halvings that reach the leaves are enough
enough : (h : ℕ) (s : List Paren) (v : ℕ) → 256 ≤ v * 2 ^ h → node_of h s v ≡ node_of (suc h) s v
unfolding node_of
enough zero s v l = rw (le-leb 256 v (omega arith))
enough (suc h) s v l =
    let e : v * (2 * 2 ^ h) ≡ v * 2 ^ suc h = rw (pow-succ' 2 h) in
    rw (enough h s (2 * v) (omega arith), enough h s (2 * v + 1) (omega arith))

pub node-halves : (s : List Paren) (v : ℕ) → 1 ≤ v → v < 256 → node s v ≡ min (node s (2 * v)) (node s (2 * v + 1))
unfolding node node_of
node-halves s v h l =
    rw (lt-leb 256 v l, enough 7 s (2 * v) (omega arith), enough 7 s (2 * v + 1) (omega arith))

pub slot-leaf : (s : List Paren) (k : ℕ) → k < 256 → slot s (512 + k) ≡ leaf s k
slot-leaf s k h =
    let e : 256 + (256 + k) ≡ 512 + k = omega arith in
    let f : 256 + k - 256 ≡ k = omega arith in
    ap (slot s) (sym e) ∙ slot-node s (256 + k) (omega arith) (omega arith) ∙ node-leaf s (256 + k) (omega arith) ∙ ap (leaf s) f

-- ---- the last and the smallest of some excesses

last_at : (l : List ℕ) → 0 < length l → last_of l ≡ get_or l (length l - 1) 0
unfolding last_of
last_at [] h = absurd (omega arith)
last_at (x ∷ []) h = refl
last_at (x ∷ y ∷ l) h =
    let e : length (x ∷ y ∷ l) - 1 ≡ suc (length (y ∷ l) - 1) = omega arith in
    rw e (last_at (y ∷ l) (omega arith))

smallest-least : (l : List ℕ) (b : ℕ) → b < length l → smallest_of l ≤ get_or l b 0
unfolding smallest_of
smallest-least [] b h = absurd (omega arith)
smallest-least (x ∷ l) zero h = omega arith
smallest-least (x ∷ l) (suc b) h = omega (arith, smallest-least l b (omega arith))

pub smallest_few : (l : List ℕ) → smallest_of l ≤ none
unfolding smallest_of
smallest_few [] = omega arith
smallest_few (x ∷ l) = omega (arith, smallest_few l)

pub leaf_few : (s : List Paren) (k : ℕ) → leaf s k ≤ none
unfolding leaf
leaf_few s k = smallest_few (in_block s k)

-- where it is not what no number at all would give, it stands somewhere
smallest_stands : (l : List ℕ) → smallest_of l < none → (c : ℕ) × (c < length l) × (smallest_of l ≡ get_or l c 0)
unfolding smallest_of
smallest_stands [] a = absurd (omega arith)
smallest_stands (x ∷ l) a = by (dec_le x (smallest_of l)) (λ g. smallest_stands l g)
  where
    by : Dec (x ≤ smallest_of l) → (smallest_of l < none → (c : ℕ) × (c < length l) × (smallest_of l ≡ get_or l c 0))
        → (c : ℕ) × (c < suc (length l)) × (min x (smallest_of l) ≡ get_or (x ∷ l) c 0)
    by (yes g) on = (0, omega arith, omega arith)
    by (no g) on =
        let (c, h, e) = on (omega arith) in
        (suc c, omega arith, omega arith)

-- no excess is above the number of openings
pub excess_few : (s : List Paren) (b : ℕ) → excess 0 s b ≤ openings s
unfolding excess
excess_few s b =
    omega (arith, openings-append (take (b + 1) s) (drop (b + 1) s), ap openings (take-append-drop (b + 1) s))

-- a block's excesses are those of its own parentheses, from the excess before it on
pub block-alone : (s : List Paren) (k e : ℕ) → e + closings (take (256 * k) s) ≡ openings (take (256 * k) s)
    → in_block s k ≡ excesses e (take 256 (drop (256 * k) s))
unfolding in_block
block-alone s k e h =
    rw (excesses-drop 0 e s (256 * k) (omega arith), excesses-take)

-- ---- the blocks of n entries' parentheses

-- block k's leaf is the excess after one of its parentheses
pub record LeafAt (s : List Paren) (k : ℕ) : Type 0 where
  pub place : ℕ
  pub from : 256 * k ≤ place
  pub upto : place < 256 * (k + 1)
  pub within : place < length s
  pub here : leaf s k ≡ excess 0 s place

module _ (s : List Paren) (n : ℕ) (long : length s ≡ 2 * n) where
  block-length : (k : ℕ) → length (in_block s k) ≡ min 256 (2 * n - 256 * k)
  unfolding in_block
  block-length k = simp (length-take, length-drop) (omega (arith, excesses-length 0 s))

  block_at : (k b : ℕ) → b < 256 → 256 * k + b < 2 * n → get_or (in_block s k) b 0 ≡ excess 0 s (256 * k + b)
  unfolding in_block
  block_at k b h l =
      get_or-take 256 (drop (256 * k) (excesses 0 s)) b 0 h
      ∙ get_or-drop (256 * k) (excesses 0 s) b 0
      ∙ excesses_at 0 s (256 * k + b) (omega arith)

  block_none : (k : ℕ) → blocks_for n ≤ k → in_block s k ≡ []
  unfolding in_block
  block_none k h =
      rw (drop_of_length-le (excesses 0 s) {i = 256 * k} (omega (arith, excesses-length 0 s)))

  pub end_stands : (k : ℕ) → k < blocks_for n → block_end s k ≡ excess 0 s (min (256 * (k + 1)) (2 * n) - 1)
  unfolding block_end
  end_stands k h =
      let m = block-length k in
      let e : 256 * k + (length (in_block s k) - 1) ≡ min (256 * (k + 1)) (2 * n) - 1 = omega arith in
      last_at (in_block s k) (omega arith) ∙ block_at k (length (in_block s k) - 1) (omega arith) (omega arith) ∙ ap (excess 0 s) e

  -- it tells how many closings stand up to the block's end
  pub end_closings : Balanced s → (k : ℕ) → k < blocks_for n → block_end s k + 2 * closings (take (256 * (k + 1)) s) ≡ min (256 * (k + 1)) (2 * n)
  unfolding excess
  end_closings balance k h =
      let m = min (256 * (k + 1)) (2 * n) in
      let e : m - 1 + 1 ≡ m = omega arith in
      let end : block_end s k ≡ 0 + openings (take (256 * (k + 1)) s) - closings (take (256 * (k + 1)) s) = rw (e, same (dec_le (256 * (k + 1)) (2 * n))) at (end_stands k h) in
      omega (arith, balance.above (256 * (k + 1)), counts-length (take (256 * (k + 1)) s), length-take (256 * (k + 1)) s)
    where
      same : Dec (256 * (k + 1) ≤ 2 * n) → take (min (256 * (k + 1)) (2 * n)) s ≡ take (256 * (k + 1)) s
      same (yes l) = rw (min-eq_left l)
      same (no l) = rw (take_all (min (256 * (k + 1)) (2 * n)) s (omega arith), take_all (256 * (k + 1)) s (omega arith))

  pub end_few : Balanced s → (k : ℕ) → k < blocks_for n → block_end s k ≤ n
  end_few balance k h =
      omega (arith, end_stands k h, excess_few s (min (256 * (k + 1)) (2 * n) - 1), balance.last, counts-length s)

  pub no_end : (k : ℕ) → blocks_for n ≤ k → block_end s k ≡ none
  unfolding block_end last_of
  no_end k h = rw (block_none k h)

  pub leaf-least : (k b : ℕ) → 256 * k ≤ b → b < 256 * (k + 1) → b < 2 * n → leaf s k ≤ excess 0 s b
  unfolding leaf
  leaf-least k b h u l =
      let m = block-length k in
      let e : 256 * k + (b - 256 * k) ≡ b = omega arith in
      let f : get_or (in_block s k) (b - 256 * k) 0 ≡ excess 0 s b = block_at k (b - 256 * k) (omega arith) (omega arith) ∙ ap (excess 0 s) e in
      omega (arith, smallest-least (in_block s k) (b - 256 * k) (omega arith))

  pub no-leaf : (k : ℕ) → blocks_for n ≤ k → leaf s k ≡ none
  unfolding leaf smallest_of
  no-leaf k h = rw (block_none k h)

  pub leaf_stands : n ≤ most → Balanced s → (k : ℕ) → k < blocks_for n → LeafAt s k
  unfolding leaf
  leaf_stands few balance k h =
      let m = block-length k in
      let low = leaf-least k (256 * k) (omega arith) (omega arith) (omega arith) in
      let (b, l, e) = smallest_stands (in_block s k) (omega (arith, excess_few s (256 * k), balance, counts-length s)) in
      record {
        place = 256 * k + b;
        from = omega arith;
        upto = omega arith;
        within = omega arith;
        here = e ∙ block_at k b (omega arith) (omega arith);
      }

  -- ---- closings of balanced parentheses

  pub closing-block : Balanced s → (t : ℕ) → 256 * t < n → closing_block s t ≡ closing_place s (256 * t) / 256
  unfolding closing_block
  closing-block balance t h =
      let m = balance.last in
      rw (lt-ltb (256 * t) (closings s) (omega (arith, counts-length s)))

  pub no-closing : Balanced s → (t : ℕ) → n ≤ 256 * t → closing_block s t ≡ none
  unfolding closing_block
  no-closing balance t h =
      let m = balance.last in
      rw (le-ltb (256 * t) (closings s) (omega (arith, counts-length s)))
