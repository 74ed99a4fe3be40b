-- Closings and blocks: a closing of a whole sequence as one of a part of it, and how many closings there are before a block.
-- The laws of the first half hold of any sequence of parentheses. Assumes nothing.
use mathlib.Core.Path.{◌≡◌, ap, sym, ◌∙◌}
use Prim.Native.Nat.{ℕ, suc, ◌+◌, ◌-◌, ◌*◌, ◌/◌, ◌≤◌, ◌<◌}
use native.Mathlib.Decide.{dec_lt}
use native.Mathlib.Omega.{arith}
use mathlib.Core.List.{List, ◌++◌}
use lib.ListN.{length, take, drop, take-append-drop, length-take, length-drop}
use lib.Seq.{take-add, length-take-le}
use Rattle.rules.specs.Shape.{Paren}
use Rattle.rules.specs.Excess.{closings, closing_place, excess, Balanced}
use Rattle.rules.proofs.Excess.{closings-append, counts-length}
use Rattle.rules.proofs.ClosingPlace.{closings-more, closing_stands}
use Rattle.rules.proofs.Parts.{closing_first, closing_second}

-- ---- a closing and a place

pub closing-from : (s : List Paren) (i a : ℕ) → i < closings s → a ≤ closing_place s i → closings (take a s) ≤ i
closing-from s i a h l = omega (arith, closings-more s a (closing_place s i) l, closing_stands s i h)

pub closing-upto : (s : List Paren) (i b : ℕ) → i < closings s → closing_place s i < b → i < closings (take b s)
closing-upto s i b h l = omega (arith, closings-more s (suc (closing_place s i)) b l, closing_stands s i h)

pub closing_behind : (s : List Paren) (i b : ℕ) → i < closings s → closings (take b s) ≤ i → b ≤ closing_place s i
closing_behind s i b h l = by (dec_lt (closing_place s i) b)
  where
    by : Dec (closing_place s i < b) → b ≤ closing_place s i
    by (yes y) = absurd (omega (arith, closing-upto s i b h y))
    by (no n) = omega arith

-- ---- a closing of the part of w parentheses from a on

-- closing i is in that part, and is closing j of it
pub record InPart (s : List Paren) (a w i j : ℕ) : Type 0 where
  pub among : j < closings (take w (drop a s))
  pub stands : closing_place s i ≡ a + closing_place (take w (drop a s)) j

pub in_part : (s : List Paren) (a w i : ℕ) → closings (take a s) ≤ i → i < closings (take (a + w) s) → InPart s a w i (i - closings (take a s))
in_part s a w i l h =
    let u = take a s in
    let v = take w (drop a s) in
    let z = drop w (drop a s) in
    let joined : closings (take (a + w) s) ≡ closings u + closings v = rw (take-add a w s) (closings-append u v) in
    let among : i - closings u < closings v = omega arith in
    let front : length u ≡ a = omega (arith, length-take a s, counts-length v, length-take w (drop a s), length-drop a s) in
    let whole : u ++ (v ++ z) ≡ s = rw (take-append-drop w (drop a s), take-append-drop a s) in
    record {
      among = among;
      stands =
          ap (λ (t : List Paren). closing_place t i) (sym whole)
          ∙ closing_second u (v ++ z) i l
          ∙ rw (front, closing_first v z (i - closings u) among);
    }

-- ---- blocks

pub in_block_lem : (s : List Paren) (i k : ℕ) → i < closings s → closing_place s i / 256 ≡ k → InPart s (256 * k) 256 i (i - closings (take (256 * k) s))
in_block_lem s i k h e =
    in_part s (256 * k) 256 i (closing-from s i (256 * k) h (omega arith)) (closing-upto s i (256 * k + 256) h (omega arith))

-- ---- balanced parentheses

-- how many closings there are before parenthesis b, by the excess there
pub excess-closings : (s : List Paren) (b : ℕ) → Balanced s → 0 < b → b ≤ length s → excess 0 s (b - 1) + 2 * closings (take b s) ≡ b
unfolding excess
excess-closings s b balance h l =
    let e : b - 1 + 1 ≡ b = omega arith in
    rw e (omega (arith, balance.above b, counts-length (take b s), length-take-le b s l))
