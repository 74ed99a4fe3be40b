-- A record and its own summary: what the summary's numbers say of the excesses, and which entry the lowest place names.
-- Assumes nothing.
use mathlib.Core.Path.{◌≡◌, refl, sym, ap, ap₂, ◌∙◌}
use Prim.Native.Nat.{ℕ, suc, min, ◌+◌, ◌-◌, ◌*◌, ◌≤◌, ◌<◌}
use native.Mathlib.Omega.{arith}
use mathlib.Core.List.{List}
use lib.ListN.{length, take, drop, get_or, take-append-drop}
use lib.Seq.{take-take}
use Rattle.rules.specs.Column.{IsLeast, least}
use Rattle.rules.specs.Shape.{Paren}
use Rattle.rules.specs.Excess.{openings, closings, closing_place, excess, excesses, entry_between}
use Rattle.rules.specs.Bytes.{all_bits}
use Rattle.rules.specs.Summary.{node, leaf, blocks_for}
use Rattle.rules.proofs.Bytes.{all_bits-length}
use Rattle.rules.proofs.Excess.{counts-length, excesses_at}
use Rattle.rules.proofs.Least.{least_is, least_unique}
use Rattle.rules.proofs.ClosingPlace.{closings-more, closings_part, closing-within, closing_stands, closing-order}
use Rattle.rules.proofs.Parts.{closing_first}
use Rattle.rules.proofs.Counted.{excess-counts, least-closes, between-raised}
use Rattle.rules.proofs.Summary.{filled_at, slot-leaf, slot-node, node-halves, leaf-least, leaf_stands}
use Rattle.tree.specs.Tree.{Halves}
use Rattle.scan.specs.declared.Scan.{Scan}
use Rattle.blocks.specs.Search.{Own}
use Rattle.quick.specs.Lowest.{Lowest}
use Rattle.quick.specs.Part.{ground_level, height, level}
use Rattle.quick.specs.Quick.{parens_in, Ours, closing_in}

module _ (body t : List ℕ) (n : ℕ) (ours : Ours body t n) where
  own : Own t (parens_in body n) n
  own = ours.own

  bits : length (all_bits body) ≡ 8 * length body
  bits = all_bits-length body

  pub few_bytes : length body ≤ 8192
  few_bytes = let f = own.few in let w = ours.whole in omega arith

  -- 2n parentheses and at most 65,536 bits
  pub long_bits : 2 * n ≤ length (all_bits body)
  long_bits = let w = ours.whole in omega (arith, bits)

  few_bits : length (all_bits body) ≤ ground_level
  few_bits = omega (arith, bits, few_bytes)

  same_take : (p : ℕ) → p ≤ 2 * n → take p (parens_in body n) ≡ take p (all_bits body)
  same_take p h = take-take p (2 * n) (all_bits body) h

  pub closings_n : closings (parens_in body n) ≡ n
  closings_n =
      let l = own.balance.last in
      let m = own.long in
      omega (arith, counts-length (parens_in body n))

  pub closings_all : n ≤ closings (all_bits body)
  closings_all = omega (arith, closings_n, closings_part (all_bits body) (2 * n))

  -- ---- excesses

  pub height_own : (p : ℕ) → p < 2 * n → height body p ≡ ground_level + excess 0 (parens_in body n) p
  unfolding excess
  height_own p h =
      let above = own.balance.above (p + 1) in
      rw (← (same_take (p + 1) (omega arith))) (omega arith)

  -- the excess before a place that is not the first
  pub level_own : (p : ℕ) → 0 < p → p ≤ 2 * n → level body p ≡ ground_level + excess 0 (parens_in body n) (p - 1)
  unfolding excess
  level_own p h l =
      let e : p - 1 + 1 ≡ p = omega arith in
      let above = own.balance.above p in
      rw (e, ← (same_take p l)) (omega arith)

  pub level_first : level body 0 ≡ ground_level
  unfolding openings closings
  level_first = refl

  -- ---- leaves and nodes

  pub leaf-bounds : (k p : ℕ) → k ≤ 255 → 256 * k ≤ p → p < 256 * k + 256 → p < 2 * n → ground_level + get_or t (512 + k) 0 ≤ height body p
  leaf-bounds k p few from upto within =
      let e : get_or t (512 + k) 0 ≡ leaf (parens_in body n) k = filled_at t (parens_in body n) own.filled (512 + k) (omega arith) ∙ slot-leaf (parens_in body n) k (omega arith) in
      let l = leaf-least (parens_in body n) n own.long k p from (omega arith) within in
      omega (arith, height_own p within)

  pub record Leaf (k : ℕ) : Type 0 where
    pub place : ℕ
    pub from : 256 * k ≤ place
    pub upto : place < 256 * k + 256
    pub within : place < 2 * n
    pub here : ground_level + get_or t (512 + k) 0 ≡ height body place

  pub leaf-there : (k : ℕ) → k < blocks_for n → Leaf k
  leaf-there k h =
      let f = own.few in
      let s = leaf_stands (parens_in body n) n own.long own.few own.balance k h in
      let l = own.long in
      let w = s.within in
      let u = s.upto in
      let e : get_or t (512 + k) 0 ≡ leaf (parens_in body n) k = filled_at t (parens_in body n) own.filled (512 + k) (omega arith) ∙ slot-leaf (parens_in body n) k (omega arith) in
      record { place = s.place; from = s.from; upto = omega arith; within = omega arith; here = ap (ground_level +◌) (e ∙ s.here) ∙ sym (height_own s.place (omega arith)) }

  node_own : (v : ℕ) → 1 ≤ v → v < 512 → get_or t (256 + v) 0 ≡ node (parens_in body n) v
  node_own v h l = filled_at t (parens_in body n) own.filled (256 + v) (omega arith) ∙ slot-node (parens_in body n) v h l

  pub halves_own : Halves t
  halves_own =
      record {
        node = λ v h l. node_own v h (omega arith) ∙ node-halves (parens_in body n) v h l ∙ ap₂ min (sym (node_own (2 * v) (omega arith) (omega arith))) (sym (node_own (2 * v + 1) (omega arith) (omega arith)));
      }

  -- ---- closings

  pub closing_same : (i : ℕ) → i < n → closing_place (all_bits body) i ≡ closing_in body n i
  closing_same i h =
      ap (λ (s : List Paren). closing_place s i) (sym (take-append-drop (2 * n) (all_bits body)))
      ∙ closing_first (parens_in body n) (drop (2 * n) (all_bits body)) i (omega (arith, closings_n))

  pub closing_low : (i : ℕ) → i < n → closing_in body n i < 2 * n
  closing_low i h = let l = own.long in omega (arith, closing-within (parens_in body n) i (omega (arith, closings_n)))

  pub closings-order : (i j : ℕ) → i ≤ j → j < n → closing_in body n i ≤ closing_in body n j
  closings-order i j h l = closing-order (parens_in body n) i j h (omega (arith, closings_n))

  -- the excess after closing i
  pub closing-height : (i : ℕ) → i < n → height body (closing_in body n i) + 2 * (i + 1) ≡ ground_level + (closing_in body n i + 1)
  closing-height i h =
      let x = closing_in body n i in
      let l = closing_low i h in
      let s = (closing_stands (parens_in body n) i (omega (arith, closings_n))).upto in
      let e : closings (take (suc x) (all_bits body)) ≡ suc i = ap closings (sym (same_take (suc x) (omega arith))) ∙ s in
      omega (arith, excess-counts ground_level (all_bits body) x few_bits (omega (arith, long_bits)))

  -- ---- the entry that the lowest place names

  at : (p : ℕ) → p < 2 * n → get_or (excesses ground_level (all_bits body)) p 0 ≡ height body p
  at p h = excesses_at ground_level (all_bits body) p (omega (arith, long_bits))

  module _ (i j : ℕ) (order : i ≤ j) (among : j < n) (st : Scan) (low : Lowest (height body) (closing_in body n i) (closing_in body n j + 1) st) where
    end : closing_in body n j < 2 * n
    end = closing_low j among

    is-least : IsLeast (excesses ground_level (all_bits body)) (closing_in body n i) (closing_in body n j) st.place
    is-least =
        let e = end in
        let u = low.upto in
        let here : get_or (excesses ground_level (all_bits body)) st.place 0 ≡ st.smallest = at st.place (omega arith) ∙ sym low.here in
        record {
          from = low.from;
          upto = omega arith;
          before = λ k g l. rw (here, at k (omega arith)) (low.before k g l);
          after = λ k g l. rw (here, at k (omega arith)) (low.after k (omega (arith, low.from)) (omega arith));
        }

    found : entry_between (parens_in body n) i j ≡ closings (take st.place (all_bits body))
    found =
        let X = excesses ground_level (all_bits body) in
        let e : least X (closing_in body n i) (closing_in body n j) ≡ st.place = least_unique (least_is X (closing_in body n i) (closing_in body n j) (closings-order i j order among)) is-least in
        between-raised ground_level (2 * n) (all_bits body) i j own.balance order (omega (arith, closings_n))
        ∙ ap (λ (p : ℕ). closings (take p (all_bits body))) (ap₂ (least X) (closing_same i (omega arith)) (closing_same j among) ∙ e)

    -- the number of the closing there, by the place and the excess
    pub counted : st.smallest + 2 * (entry_between (parens_in body n) i j + 1) ≡ ground_level + (st.place + 1)
    counted =
        let p = st.place in
        let u = low.upto in
        let e = end in
        let b = long_bits in
        let all : i < closings (all_bits body) = omega (arith, closings_all) in
        let c : closings (take (suc p) (all_bits body)) ≡ suc (closings (take p (all_bits body))) =
        least-closes ground_level (all_bits body) i (closing_in body n j) p few_bits all (omega arith) (rw (closing_same i (omega arith)) is-least) in
        omega (arith, excess-counts ground_level (all_bits body) p few_bits (omega arith), low.here, found)

    pub between : (i ≤ entry_between (parens_in body n) i j) × (entry_between (parens_in body n) i j ≤ j)
    between =
        let p = st.place in
        let u = low.upto in
        let e = end in
        let f = low.from in
        let a = (closing_stands (parens_in body n) i (omega (arith, closings_n))).before in
        let b = (closing_stands (parens_in body n) j (omega (arith, closings_n))).before in
        let g = found in (
          omega (arith, closings-more (all_bits body) (closing_in body n i) p f, ap closings (same_take (closing_in body n i) (omega arith))),
          omega (arith, closings-more (all_bits body) p (closing_in body n j) (omega arith), ap closings (same_take (closing_in body n j) (omega arith))),
        )
