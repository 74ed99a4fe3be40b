-- From closing to closing: what the parts of the blocks find together is the lowest of all.
-- Assumes nothing.
use mathlib.Core.Path.{◌≡◌, ap}
use Prim.Native.Nat.{ℕ, ◌+◌, ◌*◌, ◌/◌, ◌≤◌, ◌<◌}
use native.Mathlib.Nat.{le_refl}
use native.Mathlib.Omega.{arith}
use mathlib.Core.List.{List}
use lib.ListN.{get_or}
use Rattle.rules.specs.Excess.{entry_between}
use Rattle.tree.specs.declared.Best.{Best}
use Rattle.tree.specs.Tree.{Between, Over}
use Rattle.scan.specs.declared.Scan.{Scan}
use Rattle.quick.specs.declared.Stretch.{Stretch}
use Rattle.quick.specs.declared.part.Closing.{Closing}
use Rattle.quick.specs.Lowest.{Lowest}
use Rattle.quick.specs.Part.{ground_level, height, end_of, Bounds, FromClosing}
use Rattle.quick.specs.Quick.{parens_in}
use Rattle.quick.specs.Stretch.{body, numbers, Asks, Finishes}
use Rattle.quick.proofs.Beats.{split, beats_idle, low_join}
use Rattle.quick.proofs.Ours.{leaf-bounds, halves_own, closing_low, closings-order, closing-height, counted}
use Rattle.quick.proofs.Middle.{from, to, low_j, above_leaf, middle}

module _ (s : Stretch) (n : ℕ) (asks : Asks s n) where
  abbrev bytes : List ℕ
  bytes = body s.lent

  abbrev t : List ℕ
  t = numbers s.lent

  abbrev at_i : ℕ
  at_i = from s n asks

  abbrev at_j : ℕ
  at_j = to s n asks

  among_i : s.i < n
  among_i = let o = s.order in let m = asks.among in omega arith

  low_i : at_i < 2 * n
  low_i = closing_low bytes t n asks.ours s.i among_i

  order : at_i ≤ at_j
  order = closings-order bytes t n asks.ours s.i s.j s.order asks.among

  -- no excess from closing i to closing j is below the node over both blocks
  pub over_floor : (r : ℕ) → Over t s.a s.b r → (p : ℕ) → at_i ≤ p → p < at_j + 1 → ground_level + r ≤ height bytes p
  over_floor r over p g h =
      let f = asks.first in
      let u = asks.last in
      omega (arith, over.lowest (halves_own bytes t n asks.ours) (p / 256) (omega arith) (omega arith), above_leaf s n asks p (omega (arith, low_j s n asks)))

  module _ (first : Closing) (at : first.place ≡ at_i) (high : first.excess ≡ height bytes first.place) where
    -- the excess after closing i is as low as any
    pub lowest_first : (m : ℕ) → ((p : ℕ) → at_i ≤ p → p < at_j + 1 → m ≤ height bytes p) → first.excess ≤ m → s.i ≡ entry_between (parens_in bytes n) s.i s.j
    lowest_first m floor l =
        omega (arith, counted bytes t n asks.ours s.i s.j s.order asks.among (record { excess = 0; smallest = first.excess; place = first.place }) low, closing-height bytes t n asks.ours s.i among_i, high, at, ap (height bytes) at)
      where
        low : Lowest (height bytes) at_i (at_j + 1) (record { excess = 0; smallest = first.excess; place = first.place })
        low =
            record {
              from = omega (arith, at);
              upto = omega (arith, at, order);
              here = high;
              before = λ p g h. absurd (omega (arith, at));
              after = λ p g h. omega (arith, floor p g h);
            }

    module _ (low : ℕ) (leaf : low ≡ ground_level + get_or t (512 + s.a) 0) where
      -- no excess of the first block is below its leaf
      pub leaf-floor : (c : ℕ) → c ≤ 256 * s.a + 256 → c ≤ at_j + 1 → (p : ℕ) → at_i ≤ p → p < c → low ≤ height bytes p
      leaf-floor c h l p g u =
          let f = asks.first in
          let few = s.last.few in
          let o = s.ordered in
          omega (arith, leaf, leaf-bounds bytes t n asks.ours s.a p (omega arith) (omega arith) (omega arith) (omega (arith, low_j s n asks)))

      bounds : (c : ℕ) → c ≤ 256 * s.a + 256 → c ≤ at_j + 1 → Bounds bytes first.place c low
      bounds c h l p g u = leaf-floor c h l p (omega (arith, at)) u

      -- one block
      pub inside : s.a ≡ s.b → (y : ℕ) (end : Scan) → y ≡ at_j → FromClosing bytes first.place (y + 1) first.excess low end → Lowest (height bytes) at_i (at_j + 1) end
      inside is y end to from =
          let l = asks.last in
          rw (at, to) at (from.right high (bounds (y + 1) (omega arith) (omega arith)))

      module _ (less : s.a < s.b) where
        -- the first block's part
        first-low : (part : Scan) → FromClosing bytes first.place (8 * end_of bytes s.a) first.excess low part → Lowest (height bytes) at_i (256 * s.a + 256) part
        first-low part from =
            let u = s.last.starts in
            let l = asks.last in
            let w : 8 * end_of bytes s.a ≡ 256 * s.a + 256 = omega arith in
            rw (at, w) at (from.right high (bounds (8 * end_of bytes s.a) (omega arith) (omega arith)))

        -- it is as low as every block between: then the last one's part
        pub first-wins : (best : Best) → Between t s.a s.b best → (part end : Scan) → FromClosing bytes first.place (8 * end_of bytes s.a) first.excess low part
            → part.smallest ≤ 131072 + best.low → Finishes s part end → Lowest (height bytes) at_i (at_j + 1) end
        first-wins best held part end from h fin =
            let f = asks.first in
            let l = asks.last in
            let two : Lowest (height bytes) at_i (256 * s.b) part =
            low_join (height bytes) (omega arith) (omega arith) (first-low part from)
            (beats_idle (height bytes) (256 * s.a + 256) (256 * s.b) part (λ p g u. omega (arith, middle s n asks best (held.some (omega arith)) p g u))) in
            low_join (height bytes) (omega arith) (omega arith) two (fin.right n asks.ours asks.among asks.last (omega arith))

        -- it is above a block between
        pub part-above : (m : ℕ) (part : Scan) → FromClosing bytes first.place (8 * end_of bytes s.a) first.excess low part → 131072 + m < part.smallest
            → (p : ℕ) → at_i ≤ p → p < 256 * s.a + 256 → ground_level + m < height bytes p
        part-above m part from l p g h = omega (arith, (first-low part from).after p g h)

  module _ (less : s.a < s.b) where
    -- where all of the first block's part is above the blocks between, there is one
    pub one-between : (best : Best) → ((p : ℕ) → at_i ≤ p → p < 256 * s.a + 256 → ground_level + best.low < height bytes p) → Between t s.a s.b best → s.a + 1 < s.b
    one-between best above held =
        split (s.a + 1) s.b (λ u. u)
        (λ u.
        let f = asks.first in
        let m = asks.ours.own.few in
        absurd (omega (arith, held.none (omega arith), above at_i (le_refl _) (omega arith), closing-height bytes t n asks.ours s.i among_i, low_i)))

    -- and so it is where its leaf is above them
    pub leaf_above : (m low : ℕ) → low ≡ ground_level + get_or t (512 + s.a) 0 → 131072 + m < low
        → (p : ℕ) → at_i ≤ p → p < 256 * s.a + 256 → ground_level + m < height bytes p
    leaf_above m low leaf l p g h =
        let f = asks.first in
        let u = asks.last in
        let few = s.last.few in
        omega (arith, leaf, leaf-bounds bytes t n asks.ours s.a p (omega arith) (omega arith) (omega arith) (omega (arith, low_j s n asks)))
