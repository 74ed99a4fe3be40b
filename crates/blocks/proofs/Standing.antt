-- Where the numbers are the parentheses' own summary the search stops at the block in which the closing stands, and the excess before a
-- block is the one that it says. Assumes nothing.
use mathlib.Core.Path.{◌≡◌, refl, ap, ◌∙◌}
use mathlib.Core.Logic.{⊎_elim}
use Prim.Native.Nat.{ℕ, min, ◌+◌, ◌-◌, ◌*◌, ◌/◌, ◌≤◌, ◌<◌}
use native.Mathlib.Decide.{dec_lt}
use native.Mathlib.Omega.{arith}
use mathlib.Core.Bool.{Bool, true, false}
use mathlib.Core.List.{List}
use mir.Val.{bool_byte as from_bool}
use lib.ListN.{take, get_or}
use Rattle.rules.specs.Shape.{Paren}
use Rattle.rules.specs.Excess.{closings, closing_place, excess}
use Rattle.rules.specs.Summary.{none, blocks_for, closing_block}
use Rattle.rules.proofs.Excess.{counts-length}
use Rattle.rules.proofs.ClosingPlace.{closing-within, closing-among, closing-order}
use Rattle.rules.proofs.Summary.{filled_at, slot_end, slot-closing, end_stands, end_closings, closing-block, no-closing}
use Rattle.rules.proofs.Blocks.{closing_behind}
use Rattle.blocks.specs.Search.{Own, Passed, Stops, Last}

module _ {t : List ℕ} {s : List Paren} {n : ℕ} (own : Own t s n) where
  own_closings : closings s ≡ n
  own_closings = omega (arith, own.balance.last, counts-length s, own.long)

  end_at : (k : ℕ) → k + 1 < blocks_for n → get_or t k 0 + 2 * closings (take (256 * (k + 1)) s) ≡ 256 * (k + 1)
  end_at k h =
      rw (filled_at t s own.filled k (omega (arith, own.few)), slot_end s k (omega (arith, own.few)))
      (omega (arith, end_closings s n own.long own.balance k (omega arith)))

  slot_at : (q : ℕ) → q < 128 → get_or t (768 + q) 0 ≡ closing_block s q
  slot_at q h = filled_at t s own.filled (768 + q) (omega arith) ∙ slot-closing s q

  first_at : (q : ℕ) → q < 128 → 256 * q < n → get_or t (768 + q) 0 ≡ closing_place s (256 * q) / 256
  first_at q h l = slot_at q h ∙ closing-block s n own.long own.balance q l

  none_at : (q : ℕ) → q < 128 → n ≤ 256 * q → get_or t (768 + q) 0 ≡ none
  none_at q h l = slot_at q h ∙ no-closing s n own.long own.balance q l

  -- closing number i, and the block named for the closings from 256 (i / 256) on
  module _ (i : ℕ) (l : i < n) (first : ℕ) (named : first ≡ get_or t (768 + i / 256) 0) where
    inside : closing_place s i < 2 * n
    inside = omega (arith, closing-within s i (omega (arith, own_closings)), own.long)

    order : (a b : ℕ) → a ≤ b → b < n → closing_place s a ≤ closing_place s b
    order a b h g = closing-order s a b h (omega (arith, own_closings))

    from_first : first ≤ closing_place s i / 256
    from_first =
        omega (arith, first_at (i / 256) (omega (arith, own.few)) (omega arith), order (256 * (i / 256)) i (omega arith) l)

    pub not-strange : first < blocks_for n
    not-strange = omega (arith, from_first, inside)

    upto-named : (q : ℕ) → q < 127 → i < 256 * (q + 1) → get_or t (769 + q) 0 < blocks_for n → closing_place s i / 256 ≤ get_or t (769 + q) 0
    upto-named q h g b = by (dec_lt (256 * (q + 1)) n)
      where
        e : 768 + (q + 1) ≡ 769 + q
        e = omega arith

        by : Dec (256 * (q + 1) < n) → closing_place s i / 256 ≤ get_or t (769 + q) 0
        by (yes y) = rw (← e) (omega (arith, first_at (q + 1) (omega arith) y, order i (256 * (q + 1)) (omega arith) y))
        by (no z) =
            let f : get_or t (769 + q) 0 ≡ none = rw e at (none_at (q + 1) (omega arith) (omega arith)) in
            absurd (omega (arith, own.few))

    upto-last : (r : ℕ) → Last t (blocks_for n) first (i / 256) r → closing_place s i / 256 ≤ r
    upto-last r w =
        ⊎_elim
        (λ m. let e = m.1 in let b = w.within in omega (arith, upto-named (i / 256) m.0 (omega arith) (omega arith)))
        (λ e. omega (arith, inside))
        w.named

    ahead : i < closings s
    ahead = omega (arith, own_closings)

    -- no more than i closings up to the end of a block: the closing stands behind it; more: it does not
    behind : (k : ℕ) → k + 1 < blocks_for n → 256 * (k + 1) ≤ 2 * i + get_or t k 0 → k + 1 ≤ closing_place s i / 256
    behind k h p = omega (arith, closing_behind s i (256 * (k + 1)) ahead (omega (arith, end_at k h)))

    upto : (k : ℕ) → k + 1 < blocks_for n → 2 * i + get_or t k 0 < 256 * (k + 1) → closing_place s i / 256 ≤ k
    upto k h p = omega (arith, closing-among s i (256 * (k + 1)) (omega (arith, end_at k h)))

    -- one of three blocks, and it is not passed
    pub stands-near : (a b c : Bool) (r : ℕ) → Passed t i first a → Passed t i (first + 1) b
        → r ≡ first + from_bool a + from_bool b → r + 1 < blocks_for n → Passed t i r c → c ≡ false → closing_place s i / 256 ≡ r
    stands-near a b c r pa pb e h pc z =
        omega (arith, lower a b pa pb e, upto r h (pc.ahead z))
      where
        lower : (a b : Bool) → Passed t i first a → Passed t i (first + 1) b
            → r ≡ first + from_bool a + from_bool b → r ≤ closing_place s i / 256
        lower true true pa pb e = omega (arith, behind (first + 1) (omega arith) (pb.behind refl))
        lower false true pa pb e = omega (arith, behind (first + 1) (omega arith) (pb.behind refl))
        lower true false pa pb e = omega (arith, behind first (omega arith) (pa.behind refl))
        lower false false pa pb e = omega (arith, from_first)

    -- the block that the search stops at
    pub stands_in : (last r : ℕ) → Last t (blocks_for n) first (i / 256) last → Stops t i first last r → closing_place s i / 256 ≡ r
    stands_in last r w stops = omega (arith, lower (dec_lt first r), upper (dec_lt r last))
      where
        lower : Dec (first < r) → r ≤ closing_place s i / 256
        lower (yes y) =
            let e : r - 1 + 1 ≡ r = omega arith in
            omega (arith, behind (r - 1) (omega (arith, w.within, stops.high)) (rw e (stops.passed y)))
        lower (no z) = omega (arith, from_first, stops.low)

        upper : Dec (r < last) → closing_place s i / 256 ≤ r
        upper (yes y) = upto r (omega (arith, w.within)) (stops.ahead y)
        upper (no z) = omega (arith, upto-last last w, stops.high)

  -- ---- the excess before block k

  pub before_right : (k : ℕ) → 0 < k → k < blocks_for n → get_or t (k - 1) 0 ≡ excess 0 s (256 * k - 1)
  before_right k h l =
      let e : min (256 * (k - 1 + 1)) (2 * n) - 1 ≡ 256 * k - 1 = omega arith in
      filled_at t s own.filled (k - 1) (omega (arith, own.few))
      ∙ slot_end s (k - 1) (omega (arith, own.few))
      ∙ end_stands s n own.long (k - 1) (omega arith)
      ∙ ap (excess 0 s) e
