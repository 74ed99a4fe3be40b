-- The walk one parenthesis at a time, as the code takes it; and the column that it has written at the end.
-- Assumes nothing.
use mathlib.Core.Path.{◌≡◌, refl, sym, subst}
use Prim.Native.Nat.{ℕ, zero, suc, pred, ◌+◌, ◌-◌, ◌/◌, ◌%◌, ◌≤◌, ◌<◌}
use native.Mathlib.Nat.{add-zero, le_refl}
use native.Mathlib.Omega.{arith}
use mathlib.Core.Bool.{true, false≢true}
use mathlib.Core.List.{List, [], ◌∷◌, ◌++◌, append_assoc, append-nil}
use lib.ListN.{length, take, drop, length-set, take-append-drop}
use lib.Seq.{take-set-le, drop-set-lt, take-suc-set, append_snoc}
use Rattle.rules.specs.Shape.{Paren, opening, closing}
use Rattle.rules.specs.Excess.{openings, closings, balanced_from}
use Rattle.rules.specs.Bytes.{most, paren, low_bits}
use Rattle.rules.proofs.Excess.{kept_is}
use Rattle.rules.proofs.StandIn.{stand_in_from}
use Rattle.stand_in.specs.declared.Walk.{Walk}
use Rattle.stand_in.specs.Walk.{stored, after, walked, Ready}

-- ---- one parenthesis

balance_after : (w : Walk) (p : Paren) (s : List Paren) → balanced_from w.excess (p ∷ s) ≡ true → balanced_from (after w p).excess s ≡ true
unfolding after balanced_from
balance_after w opening s t = t
balance_after w closing s t = by w.excess t
  where
    by : (e : ℕ) → balanced_from e (closing ∷ s) ≡ true → balanced_from (pred e) s ≡ true
    by zero t = absurd (false≢true t)
    by (suc e) t = t

closed_after : (w : Walk) (p : Paren) (s : List Paren) → (after w p).closed + closings s ≡ w.closed + closings (p ∷ s)
unfolding after closings
closed_after w opening s = refl
closed_after w closing s = omega arith

same_after : (w : Walk) (p : Paren) → length (after w p).column.now ≡ length w.column.now
unfolding after
same_after w opening = length-set w.column.now w.closed (suc w.excess)
same_after w closing = length-set w.column.now w.closed (pred w.excess)

ready_after : {w : Walk} {p : Paren} {s : List Paren} → Ready w (p ∷ s) → Ready (after w p) s
ready_after {w} {p} {s} r =
    record {
      rest = r.rest;
      balance = balance_after w p (s ++ r.rest) r.balance;
      few = rw closed_after r.few;
      room = rw (closed_after, same_after) r.room;
    }

-- the walk from w along s, which is what is left of one from w₀ along s₀
pub record Going (w₀ : Walk) (s₀ : List Paren) (w : Walk) (s : List Paren) : Type 0 where
  pub ready : Ready w s
  pub walk : walked w s ≡ walked w₀ s₀

pub none_gone : {w : Walk} {s : List Paren} → Ready w s → Going w s w s
none_gone r = record { ready = r; walk = refl }

one_gone : {w₀ w : Walk} {s₀ s : List Paren} {p : Paren} → Going w₀ s₀ w (p ∷ s) → Going w₀ s₀ (after w p) s
unfolding walked
one_gone g = record { ready = ready_after g.ready; walk = g.walk }

-- ---- one bit, as the code takes it

-- what it relies on
pub record Next (w : Walk) (m : ℕ) : Type 0 where
  pub within : w.closed < length w.column.now
  pub small : w.excess ≤ most
  pub above : 1 - m ≤ w.excess + m

next_is : (w : Walk) (m : ℕ) {s : List Paren} → Ready w (paren m ∷ s) → Next w m
unfolding openings closings paren
next_is w zero {s} r =
    let k = kept_is w.excess (closing ∷ s ++ r.rest) r.balance in
    record { within = omega (arith, r.room); small = omega (arith, k.last, r.few); above = omega (arith, k.above 1) }
next_is w (suc m) {s} r =
    let k = kept_is w.excess (opening ∷ s ++ r.rest) r.balance in
    record { within = omega (arith, k.last, r.room); small = omega (arith, k.last, r.few); above = omega arith }

-- with k of a byte's bits passed, and b the rest of the byte
pub next : (count k b : ℕ) {w : Walk} → k < count → Ready w (low_bits (count - k) b) → Next w (b % 2)
unfolding low_bits
next count k b {w} l r =
    let e : count - k ≡ suc (count - (k + 1)) = omega arith in
    next_is w (b % 2) {s = low_bits (count - (k + 1)) (b / 2)} (rw e at r)

abbrev bit_walk : Walk → ℕ → Walk
bit_walk w m = stored w (w.excess + m - (1 - m)) (w.closed + (1 - m))

after_bit : (w : Walk) (m : ℕ) → m < 2 → after w (paren m) ≡ bit_walk w m
unfolding after paren
after_bit w zero l =
    let e : w.excess + 0 - (1 - 0) ≡ pred w.excess = omega arith in
    let k : w.closed + (1 - 0) ≡ suc w.closed = omega arith in
    rw (e, k)
after_bit w (suc m) l =
    let e : w.excess + suc m - (1 - suc m) ≡ suc w.excess = omega arith in
    let k : w.closed + (1 - suc m) ≡ w.closed = omega arith in
    rw (e, k)

pub bit_gone : (count k b : ℕ) {w₀ w : Walk} {s₀ : List Paren} → k < count → Going w₀ s₀ w (low_bits (count - k) b)
    → Going w₀ s₀ (bit_walk w (b % 2)) (low_bits (count - (k + 1)) (b / 2))
unfolding low_bits
bit_gone count k b {w₀} {w} {s₀} l g =
    let j : ℕ = count - (k + 1) in
    let e : count - k ≡ suc j = omega arith in
    subst (λ (v : Walk). Going w₀ s₀ v (low_bits j (b / 2))) (after_bit w (b % 2) (omega arith)) (one_gone (rw e at g))

pub all_gone : (count k b : ℕ) {w₀ w : Walk} {s₀ : List Paren} → count ≤ k → Going w₀ s₀ w (low_bits (count - k) b) → w ≡ walked w₀ s₀
unfolding low_bits walked
all_gone count k b {w₀} {w} {s₀} l g =
    let e : count - k ≡ 0 = omega arith in
    let h : Going w₀ s₀ w [] = rw e at g in
    h.walk

-- ---- some parentheses after others

pub ready_part : {w : Walk} (s t : List Paren) → Ready w (s ++ t) → Ready w s
ready_part s t r =
    record {
      rest = t ++ r.rest;
      balance = rw (← (append_assoc s t r.rest)) r.balance;
      few = rw (← (append_assoc s t r.rest)) r.few;
      room = rw (← (append_assoc s t r.rest)) r.room;
    }

pub some_gone : {w₀ w : Walk} {s₀ : List Paren} (s t : List Paren) → Going w₀ s₀ w (s ++ t) → Going w₀ s₀ (walked w s) t
unfolding walked
some_gone [] t g = g
some_gone {w₀ = w₀} {w = w} {s₀ = s₀} (p ∷ s) t g = some_gone {w = after w p} s t (one_gone g)

-- ---- the column at the end

-- the stand-in's numbers from the walk's place on, and no others: the last parenthesis closes
pub written_all : (w : Walk) (s : List Paren) → balanced_from w.excess s ≡ true → w.closed + closings s ≤ length w.column.now
    → (walked w s).column.now ≡ take w.closed w.column.now ++ stand_in_from w.excess s ++ drop (w.closed + closings s) w.column.now
unfolding walked after stand_in_from openings closings
written_all w [] t room = rw (append-nil, add-zero) (sym (take-append-drop w.closed w.column.now))
written_all w (opening ∷ s) t room =
    let col : List ℕ = w.column.now in
    let here : w.closed < w.closed + closings s = omega (arith, (kept_is w.excess (opening ∷ s) t).last) in
    let ih = written_all (after w opening) s (balance_after w opening s t) (rw length-set room) in
    rw (take-set-le w.closed col w.closed (suc w.excess) (le_refl w.closed), drop-set-lt (w.closed + closings s) col w.closed (suc w.excess) here) at ih
written_all w (closing ∷ s) t room =
    let col : List ℕ = w.column.now in
    let e : ℕ = pred w.excess in
    let here : w.closed < length col = omega arith in
    let ih = written_all (after w closing) s (balance_after w closing s t) (rw length-set (omega arith)) in
    let next : w.closed + suc (closings s) ≡ suc w.closed + closings s = omega arith in
    rw next (rw (take-suc-set col w.closed e here, append_snoc, drop-set-lt (suc w.closed + closings s) col w.closed e (omega arith)) at ih)
