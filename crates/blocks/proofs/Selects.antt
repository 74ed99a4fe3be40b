-- The place of a closing among bytes: in the bytes just ahead, or else in those behind them.
-- Assumes nothing.
use mathlib.Core.Path.{◌≡◌, ap, sym, ◌∙◌}
use Prim.Native.Nat.{ℕ, ◌+◌, ◌-◌, ◌*◌, ◌≤◌, ◌<◌}
use native.Mathlib.Omega.{arith}
use mathlib.Core.List.{List, ◌++◌}
use borrow.Author.Tests.{lt-ltb}
use lib.ListN.{length, take, drop, get_or, length-drop, take-append-drop}
use lib.Seq.{take_all, take-add, length-take-le}
use Rattle.std.specs.Prelude.{Option, Some, None}
use Rattle.std.specs.Option.{option_map}
use Rattle.rules.specs.Shape.{Paren}
use Rattle.rules.specs.Excess.{closings, closing_place}
use Rattle.rules.specs.Bytes.{low_bits, all_bits}
use Rattle.rules.proofs.Excess.{closings-append}
use Rattle.rules.proofs.ClosingPlace.{closing-within}
use Rattle.rules.proofs.Bytes.{all_bits-length, all_bits-append}
use Rattle.rules.proofs.Parts.{closing_first, closing_second}
use Rattle.words.proofs.Loaded.{one_byte}
use Rattle.blocks.specs.Select.{select_of, Selects}

select_there : (s : List Paren) (k : ℕ) → k < closings s → select_of s k ≡ closing_place s k
unfolding select_of
select_there s k h = rw (lt-ltb k (closings s) h)

pub select_inside : (s : List Paren) (k : ℕ) → k < closings s → select_of s k < length s
select_inside s k h = rw (select_there s k h) (closing-within s k h)

-- what a part says of its own bits, where closings s + left is asked of both parts
selects_first : (s t : List Paren) (k : ℕ) → k < closings s → Selects (s ++ t) k (Some (closing_place s k))
selects_first s t k h =
    let g : k < closings (s ++ t) = omega (arith, closings-append s t) in
    (g, sym (select_there (s ++ t) k g ∙ closing_first s t k h))

selects_second : (s t : List Paren) (k left : ℕ) → closings s + left ≡ k → (r : Option ℕ) → Selects t left r → Selects (s ++ t) k (option_map (λ p. length s + p) r)
selects_second s t k left e None h = omega (arith, closings-append s t)
selects_second s t k left e (Some p) (among, there) =
    let f : k - closings s ≡ left = omega arith in
    let g : k < closings (s ++ t) = omega (arith, closings-append s t) in
    (g, rw (there, select_there t left among, ← f) (sym (select_there (s ++ t) k g ∙ closing_second s t k (omega arith))))

-- ---- bytes, of which the first at are passed

-- k is asked of all of them, left of those from number at on
pub record Left (bs : List ℕ) (at left k : ℕ) : Type 0 where
  pub sum : closings (all_bits (take at bs)) + left ≡ k

-- the next j bytes have the bits s
pub record Next (bs : List ℕ) (at j : ℕ) (s : List Paren) : Type 0 where
  pub room : at + j ≤ length bs
  pub bits : all_bits (take j (drop at bs)) ≡ s

pub next_byte : (bs : List ℕ) (at b : ℕ) → at < length bs → b ≡ get_or bs at 0 → Next bs at 1 (low_bits 8 b)
next_byte bs at b h e = record { room = omega arith; bits = rw e (one_byte bs at h) }

pub next_word : (bs : List ℕ) (at r : ℕ) {from : ℕ} → low_bits 64 r ≡ all_bits (take 8 (drop from bs)) → from ≡ at → at + 8 ≤ length bs → Next bs at 8 (low_bits 64 r)
next_word bs at r {from} e same h = record { room = h; bits = rw (← same) (sym e) }

pub left_all : (bs : List ℕ) (k : ℕ) → Left bs 0 k k
unfolding closings all_bits
left_all bs k = record { sum = omega arith }

module _ {bs : List ℕ} {at left k : ℕ} (passed : Left bs at left k) where
  pub left_none : length bs ≤ at → closings (all_bits bs) ≤ k
  left_none h =
      let e = rw (take_all at bs h) at passed.sum in
      omega arith

  -- what is found in those behind
  left_behind : at ≤ length bs → (r : Option ℕ) → Selects (all_bits (drop at bs)) left r → Selects (all_bits bs) k (option_map (λ p. 8 * at + p) r)
  left_behind within r h =
      let u = all_bits (take at bs) in
      let l : length u ≡ 8 * at = rw (all_bits-length (take at bs), length-take-le at bs within) in
      let e : u ++ all_bits (drop at bs) ≡ all_bits bs =
      sym (all_bits-append (take at bs) (drop at bs)) ∙ ap all_bits (take-append-drop at bs) in
      rw (← e, ← l) (selects_second u (all_bits (drop at bs)) k left passed.sum r h)

  pub left_rest : at ≤ length bs → (r : Option ℕ) → Selects (all_bits (take (length bs - at) (drop at bs))) left r
      → Selects (all_bits bs) k (option_map (λ p. 8 * at + p) r)
  left_rest within r h =
      let e : take (length bs - at) (drop at bs) ≡ drop at bs = take_all (length bs - at) (drop at bs) (omega (arith, length-drop at bs)) in
      left_behind within r (rw e at h)

  module _ {j : ℕ} {s : List Paren} (next : Next bs at j s) where
    pub left_on : closings s ≤ left → Left bs (at + j) (left - closings s) k
    left_on h =
        record { sum = rw (take-add at j bs, all_bits-append, next.bits, closings-append (all_bits (take at bs)) s) (omega (arith, passed.sum)) }

    pub left_here : left < closings s → Selects (all_bits bs) k (Some (8 * at + closing_place s left))
    left_here h =
        let v = all_bits (drop j (drop at bs)) in
        let e : s ++ v ≡ all_bits (drop at bs) =
        rw (← next.bits) (sym (all_bits-append (take j (drop at bs)) (drop j (drop at bs))) ∙ ap all_bits (take-append-drop j (drop at bs))) in
        left_behind (omega (arith, next.room)) (Some (closing_place s left)) (rw e at (selects_first s v left h))
