-- The answer of an ask in the language of excess is the leftmost smallest entry of the stand-in: between two closings excess only rises, so the
-- smallest excess from closing i to closing j stands at a closing. So it is of any sequence, balanced or
-- not, since both count an excess below 0 as 0. Assumes nothing.
use mathlib.Core.Path.{◌≡◌}
use Prim.Native.Nat.{ℕ, suc, ◌≤◌, ◌<◌, pred}
use mathlib.Core.List.{List}
use native.Mathlib.Numerals.{add-one}
use native.Mathlib.Omega.{arith}
use lib.ListN.{length, take, get_or}
use Rattle.rules.specs.Column.{IsLeast, least}
use Rattle.rules.specs.Shape.{Paren}
use Rattle.rules.specs.Excess.{closings, closing_place, excess, excesses, entry_between}
use Rattle.rules.specs.StandIn.{stand_in}
use Rattle.rules.proofs.Least.{least_is, least_unique}
use Rattle.rules.proofs.Excess.{excesses_at}
use Rattle.rules.proofs.StandIn.{stand_in_at}
use Rattle.rules.proofs.ClosingPlace.{openings-more, closings-more, closing-within, closing_stands, closing-among, closing-order}

-- at a closing the excess is the stand-in's entry
at_closing : (s : List Paren) (k : ℕ) → k < closings s → get_or (excesses 0 s) (closing_place s k) 0 ≡ get_or (stand_in s) k 0
at_closing s k l = rw (excesses_at 0 s (closing_place s k) (closing-within s k l), stand_in_at s k l)

-- up to the next closing it is no less
since_closing : (s : List Paren) (k b : ℕ) → k < closings s → closings (take (suc b) s) ≡ suc k → b < length s
    → get_or (stand_in s) k 0 ≤ get_or (excesses 0 s) b 0
unfolding excess
since_closing s k b l h w =
    rw (excesses_at 0 s b w, stand_in_at s k l, add-one (closing_place s k), add-one b)
    (omega (arith, closing_stands s k l, openings-more s (suc (closing_place s k)) (suc b) (closing-among s k (suc b) (omega arith))))

-- the last closing up to parenthesis b has number k, no less than that of one before
last_closing : (s : List Paren) (i b : ℕ) → i < closings s → closing_place s i ≤ b → (k : ℕ) × (i ≤ k) × (closings (take (suc b) s) ≡ suc k)
last_closing s i b l h =
    let some : suc i ≤ closings (take (suc b) s) = omega (arith, closing_stands s i l, closings-more s (suc (closing_place s i)) (suc b) (omega arith)) in
    (pred (closings (take (suc b) s)), omega arith, omega arith)

least-closing : (s : List Paren) (i j q : ℕ) → j < closings s → IsLeast (stand_in s) i j q
    → IsLeast (excesses 0 s) (closing_place s i) (closing_place s j) (closing_place s q)
least-closing s i j q l h =
    record {
      from = closing-order s i q h.from lq;
      upto = closing-order s q j h.upto l;
      before = λ b x y. before b y (last_closing s i b (omega (arith, h)) x);
      after = λ b x y. after b y (last_closing s q b lq x);
    }
  where
    lq : q < closings s
    lq = omega (arith, h)

    before : (b : ℕ) → b < closing_place s q → (k : ℕ) × (i ≤ k) × (closings (take (suc b) s) ≡ suc k)
        → get_or (excesses 0 s) (closing_place s q) 0 < get_or (excesses 0 s) b 0
    before b y (k, a, e) =
        let g : k < q = omega (arith, closing_stands s q lq, closings-more s (suc b) (closing_place s q) y) in
        rw (at_closing s q lq)
        (omega (arith, h.before k a g, since_closing s k b (omega arith) e (omega (arith, closing-within s q lq))))

    after : (b : ℕ) → b ≤ closing_place s j → (k : ℕ) × (q ≤ k) × (closings (take (suc b) s) ≡ suc k)
        → get_or (excesses 0 s) (closing_place s q) 0 ≤ get_or (excesses 0 s) b 0
    after b y (k, a, e) =
        let g : k ≤ j = omega (arith, closing_stands s j l, closings-more s (suc b) (suc (closing_place s j)) (omega arith)) in
        rw (at_closing s q lq)
        (omega (arith, h.after k a g, since_closing s k b (omega arith) e (omega (arith, closing-within s j l))))

pub between_stand_in : (s : List Paren) (i j : ℕ) → i ≤ j → j < closings s → entry_between s i j ≡ least (stand_in s) i j
unfolding entry_between
between_stand_in s i j h l =
    let q : ℕ = least (stand_in s) i j in
    let w : IsLeast (stand_in s) i j q = least_is (stand_in s) i j h in
    let e : least (excesses 0 s) (closing_place s i) (closing_place s j) ≡ closing_place s q =
    least_unique (least_is (excesses 0 s) (closing_place s i) (closing_place s j) (closing-order s i j h l)) (least-closing s i j q l w) in
    rw e (closing_stands s q (omega (arith, w))).before
