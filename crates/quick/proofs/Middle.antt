-- A block between the first and the last: it stands lowest, unless the last one's part is lower.
-- Assumes nothing.
use mathlib.Core.Path.{◌≡◌, sym, ap, ◌∙◌}
use Prim.Native.Nat.{ℕ, ◌+◌, ◌*◌, ◌/◌, ◌≤◌, ◌<◌}
use native.Mathlib.Nat.{le_refl}
use native.Mathlib.Omega.{arith}
use mathlib.Core.List.{List}
use lib.ListN.{get_or}
use Rattle.rules.specs.Excess.{entry_between}
use Rattle.rules.specs.Refusal.{Outcome}
use Rattle.tree.specs.declared.Best.{Best}
use Rattle.tree.specs.Tree.{leaf, Held, Descended}
use Rattle.tree.proofs.Down.{Leftmost, comes_down}
use Rattle.scan.specs.declared.Scan.{Scan}
use Rattle.blocks.specs.Search.{Before}
use Rattle.quick.specs.declared.Stretch.{Stretch}
use Rattle.quick.specs.Lowest.{Lowest, Beats}
use Rattle.quick.specs.Part.{ground_level, height, level, end_of, GoesOn}
use Rattle.quick.specs.Quick.{parens_in, closing_in}
use Rattle.quick.specs.Stretch.{body, numbers, Asks, Names, Finishes, Right}
use Rattle.quick.proofs.Beats.{split, low_later}
use Rattle.quick.proofs.Ours.{level_own, leaf-bounds, leaf-there, halves_own, closing_low, counted, between}

-- the slot of a leaf
pub leaf-slot : (t : List ℕ) (x : ℕ) → leaf t x ≡ get_or t (512 + x) 0
leaf-slot t x = let e : 256 + (256 + x) ≡ 512 + x = omega arith in ap (λ (k : ℕ). get_or t k 0) e

module _ (s : Stretch) (n : ℕ) (asks : Asks s n) where
  abbrev bytes : List ℕ
  bytes = body s.lent

  abbrev t : List ℕ
  t = numbers s.lent

  -- the places of closings i and j
  abbrev pub from : ℕ
  from = closing_in bytes n s.i

  abbrev pub to : ℕ
  to = closing_in bytes n s.j

  pub low_j : to < 2 * n
  low_j = closing_low bytes t n asks.ours s.j asks.among

  -- no excess is below the leaf of its block
  pub above_leaf : (p : ℕ) → p < 2 * n → ground_level + leaf t (p / 256) ≤ height bytes p
  above_leaf p h =
      let f = asks.ours.own.few in
      omega (arith, leaf-slot t (p / 256), leaf-bounds bytes t n asks.ours (p / 256) p (omega arith) (omega arith) (omega arith) h)

  -- the lowest of all names the entry
  pub named : {st : Scan} {o : Outcome} → Names s st o → Lowest (height bytes) from (to + 1) st → Right s n o
  named {st} names low =
      let f = asks.ours.own.few in
      let u = low.upto in
      let l = low_j in
      let c = counted bytes t n asks.ours s.i s.j s.order asks.among st low in
      let w = between bytes t n asks.ours s.i s.j s.order asks.among st low in
      names.right (entry_between (parens_in bytes n) s.i s.j) (omega arith) c w.0 w.1

  -- no block between is lower
  pub middle : (best : Best) → Held t (257 + s.a) (256 + s.b) best → (p : ℕ) → 256 * s.a + 256 ≤ p → p < 256 * s.b → ground_level + best.low ≤ height bytes p
  middle best held p g h =
      let l = low_j in
      let e = asks.last in
      omega (arith, held.lowest (halves_own bytes t n asks.ours) (p / 256) (omega arith) (omega arith), above_leaf p (omega arith))

  module _ (best : Best) (held : Held t (257 + s.a) (256 + s.b) best) (order : s.a + 1 < s.b)
      (first : (p : ℕ) → from ≤ p → p < 256 * s.a + 256 → ground_level + best.low < height bytes p) where
    -- the last part is lower
    pub last-wins : (end : Scan) → Finishes s (record { excess = 0; smallest = 131072 + best.low; place = 0 }) end → end.smallest < 131072 + best.low
        → Lowest (height bytes) from (to + 1) end
    last-wins end fin l =
        let e = asks.first in
        let f = asks.last in
        low_later (height bytes) (omega arith) (le_refl _)
        ((fin.right n asks.ours asks.among asks.last (omega arith)).lower l)
        (λ p g h. parted p g h) (λ p g h. absurd (omega arith))
      where
        parted : (p : ℕ) → from ≤ p → p < 256 * s.b → end.smallest < height bytes p
        parted p g h = either (λ u. omega (arith, first p g u)) (λ u. omega (arith, middle best held p u h))
          where
            either : (p < 256 * s.a + 256 → end.smallest < height bytes p) → (256 * s.a + 256 ≤ p → end.smallest < height bytes p) → end.smallest < height bytes p
            either = split p (256 * s.a + 256)

    module _ (k : ℕ) (down : Descended t best.node best.level k) where
      most : Leftmost t s.a s.b best.low k
      most = comes_down held down

      number : ground_level + get_or t (512 + k) 0 ≡ ground_level + best.low
      number = ap (ground_level +◌) (sym (leaf-slot t k) ∙ most.number (halves_own bytes t n asks.ours))

      -- the block's excesses: none below, one as low
      pub inner-bounds : (p : ℕ) → 256 * k ≤ p → p < 256 * k + 256 → ground_level + best.low ≤ height bytes p
      inner-bounds p g h =
          let l = low_j in
          let e = asks.last in
          let m = most.before in
          let f = s.last.few in
          omega (arith, number, leaf-bounds bytes t n asks.ours k p (omega arith) g h (omega arith))

      -- the excess before it is the true one
      pub inner-level : (e : ℕ) → Before t k e → 131072 + e ≡ level bytes (256 * k)
      inner-level e before =
          let l = low_j in
          let f = asks.last in
          let m = most.before in
          let o = most.after in
          ap (131072 +◌) (before.right (parens_in bytes n) n asks.ours.own (omega arith) (omega arith))
          ∙ sym (level_own bytes t n asks.ours (256 * k) (omega arith) (omega arith))

      -- all of the block is in the body
      inner-end : 8 * end_of bytes k ≡ 256 * k + 256
      inner-end = let f = s.last.starts in let m = most.before in omega arith

      -- nothing from the last part is lower, so the block wins
      pub inner-wins : (end inner : Scan) (e : ℕ) → Finishes s (record { excess = 0; smallest = 131072 + best.low; place = 0 }) end
          → 131072 + best.low ≤ end.smallest → Before t k e
          → GoesOn bytes (256 * k) (8 * end_of bytes k) (record { excess = 131072 + e; smallest = 1048576; place = 0 }) (131072 + best.low) inner
          → Lowest (height bytes) from (to + 1) inner
      inner-wins end inner e fin l before on =
          let f = asks.first in
          let g = asks.last in
          let m = most.before in
          let o = most.after in
          let w = inner-end in
          let lj = low_j in
          let bt = held.bound in
          let leaf = leaf-there bytes t n asks.ours k (omega arith) in
          let beats : Beats (height bytes) (256 * k) (256 * k + 256) 1048576 0 inner = rw w at (on.right (inner-level e before) (λ p u v. inner-bounds p u (omega arith))) in
          let here = leaf.here in
          let q = number in
          let small : inner.smallest < 1048576 = split inner.smallest 1048576 (λ u. u) (λ u. absurd (omega (arith, (beats.stands u).1 leaf.place leaf.from leaf.upto))) in
          let low = beats.lower small in
          let is : inner.smallest ≡ 131072 + best.low = omega (arith, low.after leaf.place leaf.from leaf.upto, low.here, inner-bounds inner.place low.from low.upto) in
          low_later (height bytes) (omega arith) (omega arith) low (before-it is) (behind-it is)
        where
          before-it : inner.smallest ≡ 131072 + best.low → (p : ℕ) → from ≤ p → p < 256 * k → inner.smallest < height bytes p
          before-it is p g h =
              let lj = low_j in
              let f = asks.last in
              let m = most.before in
              split p (256 * s.a + 256) (λ u. omega (arith, first p g u))
              (λ u. omega (arith, most.leftmost (halves_own bytes t n asks.ours) (p / 256) (omega arith) (omega arith), above_leaf p (omega arith)))

          behind-it : inner.smallest ≡ 131072 + best.low → (p : ℕ) → 256 * k + 256 ≤ p → p < to + 1 → inner.smallest ≤ height bytes p
          behind-it is p g h =
              let o = most.after in
              split p (256 * s.b) (λ u. omega (arith, middle best held p (omega arith) u))
              (λ u. omega (arith, ((fin.right n asks.ours asks.among asks.last (omega arith)).stands l).1 p u h))
