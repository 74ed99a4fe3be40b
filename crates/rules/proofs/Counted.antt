-- Excesses counted from a number other than 0: what they tell of closings, and that they have the same leftmost smallest places.
-- Assumes nothing.
use mathlib.Core.Path.{◌≡◌, ap, sym, ◌∙◌}
use Prim.Native.Nat.{ℕ, suc, pred, ◌+◌, ◌*◌, ◌≤◌, ◌<◌}
use native.Mathlib.Numerals.{add-one}
use native.Mathlib.Decide.{dec_lt}
use native.Mathlib.Omega.{arith}
use mathlib.Core.List.{List}
use lib.ListN.{length, take, drop, get_or, length-take, take-append-drop}
use lib.Seq.{length-take-le, take-take}
use Rattle.rules.specs.Column.{IsLeast, least}
use Rattle.rules.specs.Shape.{Paren}
use Rattle.rules.specs.Excess.{openings, closings, closing_place, excess, excesses, Balanced, entry_between}
use Rattle.rules.proofs.Least.{least_is, least_unique}
use Rattle.rules.proofs.Excess.{counts-length, excesses_at}
use Rattle.rules.proofs.ClosingPlace.{openings-more, closing-within, closing_stands, closing-order}
use Rattle.rules.proofs.Parts.{closing_first}

-- how many closings there are up to parenthesis b
pub excess-counts : (g : ℕ) (s : List Paren) (b : ℕ) → length s ≤ g → b < length s → excess g s b + 2 * closings (take (suc b) s) ≡ g + suc b
unfolding excess
excess-counts g s b h l =
    let n = counts-length (take (suc b) s) in
    let m = length-take-le (suc b) s (omega arith) in
    rw (add-one b) (omega arith)

-- the leftmost smallest place from a closing on is a closing: one that opens is above the one before it
pub least-closes : (g : ℕ) (s : List Paren) (i b q : ℕ) → length s ≤ g → i < closings s → b < length s → IsLeast (excesses g s) (closing_place s i) b q
    → closings (take (suc q) s) ≡ suc (closings (take q s))
least-closes g s i b q h a l w = by (dec_lt (closing_place s i) q)
  where
    by : Dec (closing_place s i < q) → closings (take (suc q) s) ≡ suc (closings (take q s))
    by (yes y) =
        let u = w.upto in
        let p = pred q in
        let m : suc p ≡ q = omega arith in
        let below : get_or (excesses g s) q 0 < get_or (excesses g s) p 0 = w.before p (omega arith) (omega arith) in
        let at_p : excess g s p + 2 * closings (take q s) ≡ g + q = rw m at (excess-counts g s p h (omega arith)) in
        let at-q = excess-counts g s q h (omega arith) in
        let upto-p : openings (take q s) + closings (take q s) ≡ q = counts-length (take q s) ∙ length-take-le q s (omega arith) in
        let upto-q : openings (take (suc q) s) + closings (take (suc q) s) ≡ suc q = counts-length (take (suc q) s) ∙ length-take-le (suc q) s (omega arith) in
        let more = openings-more s q (suc q) (omega arith) in
        omega (arith, excesses_at g s q (omega arith), excesses_at g s p (omega arith))
    by (no n) =
        let r = closing_stands s i a in
        let e : closing_place s i ≡ q = omega (arith, w.from) in
        rw (← e, r.before, r.upto)

-- numbers that are all raised by g have the same leftmost smallest place
pub least-raised : (g : ℕ) (c d : List ℕ) (i j : ℕ) → i ≤ j → ((k : ℕ) → k ≤ j → get_or d k 0 ≡ g + get_or c k 0) → least d i j ≡ least c i j
least-raised g c d i j h e =
    let q = least c i j in
    let w = least_is c i j h in
    let u = w.upto in
    let f = e q u in
    least_unique (least_is d i j h)
    (record {
      from = w.from;
      upto = u;
      before = λ k a b. let g = e k (omega arith) in omega (arith, w.before k a b);
      after = λ k a b. let g = e k b in omega (arith, w.after k a b);
    })

-- a balanced front of s asked from 0, and s itself from g
pub between-raised : (g n : ℕ) (s : List Paren) (i j : ℕ) → Balanced (take n s) → i ≤ j → j < closings (take n s)
    → entry_between (take n s) i j ≡ closings (take (least (excesses g s) (closing_place s i) (closing_place s j)) s)
unfolding entry_between excess
between-raised g n s i j b h l =
    let q : ℕ = least (excesses g s) (closing_place s i) (closing_place s j) in
    let u : q ≤ closing_place s j = (least_is (excesses g s) (closing_place s i) (closing_place s j) order).upto in
    rw (place i (omega arith), place j l, ← (least-raised g (excesses 0 (take n s)) (excesses g s) (closing_place s i) (closing_place s j) order raised))
    (ap closings (take-take q n s (omega (arith, within, length-take n s))))
  where
    place : (k : ℕ) → k < closings (take n s) → closing_place (take n s) k ≡ closing_place s k
    place k a =
        sym (closing_first (take n s) (drop n s) k a) ∙ ap (λ (x : List Paren). closing_place x k) (take-append-drop n s)

    within : closing_place s j < length (take n s)
    within = rw (← (place j l)) (closing-within (take n s) j l)

    order : closing_place s i ≤ closing_place s j
    order = rw (← (place i (omega arith)), ← (place j l)) (closing-order (take n s) i j h l)

    raised : (k : ℕ) → k ≤ closing_place s j → get_or (excesses g s) k 0 ≡ g + get_or (excesses 0 (take n s)) k 0
    raised k a =
        let m = length-take n s in
        let f : take (k + 1) (take n s) ≡ take (k + 1) s = take-take (k + 1) n s (omega (arith, within)) in
        let above : closings (take (k + 1) s) ≤ openings (take (k + 1) s) = rw f at (b.above (k + 1)) in
        rw (excesses_at g s k (omega (arith, within)), excesses_at 0 (take n s) k (omega (arith, within)), f) (omega arith)
