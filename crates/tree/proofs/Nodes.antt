-- Laws of the tree: a node's number is the smallest of its leaves', and what a search comes to from a half it comes to from the node.
-- Assumes nothing.
use mathlib.Core.Path.{◌≡◌, ap}
use mathlib.Core.Logic.{◌⊎◌, inl, inr, ⊎_elim}
use Prim.Native.Nat.{ℕ, zero, suc, min, ◌+◌, ◌-◌, ◌*◌, ◌/◌, ◌%◌, ◌^◌, ◌≤◌, ◌<◌}
use native.Mathlib.Nat.{le_trans, le_of_eq, mul-le-mul_left, pow-succ', zero-mul}
use native.Mathlib.Numerals.{add-one}
use native.Mathlib.Omega.{arith}
use mathlib.Core.List.{List}
use lib.Pow.{pow_pos}
use Rattle.std.proofs.lemmas.Bool.{cases_lt}
use Rattle.tree.specs.Tree.{at, leaf, Halves, Within, Under, Half, left, right, Descended}

pub wider : {v h f f' e e' : ℕ} → f' ≤ f → e ≤ e' → Within v h f e → Within v h f' e'
wider p q w = record { first = le_trans p w.first; last = le_trans w.last q }

-- a node of the tree is not above the root, nor past the last leaf
node_first : (v h : ℕ) {f e : ℕ} → Within v h f e → 0 < f → 1 ≤ v
node_first zero h w p = let z = zero-mul (2 ^ h) in omega (arith, w.first)
node_first (suc v) h w p = omega arith

pub node_last : (v h : ℕ) {f e : ℕ} → Within v h f e → v < e
node_last v h w = omega (arith, mul-le-mul_left (v + 1) (pow_pos h), w.last)

-- the leaves under a node's two halves, one level fewer, are those under the node
pub halves-within : (v h : ℕ) {f e : ℕ} → Within v (suc h) f e → Within (2 * v) h f e × Within (2 * v + 1) h f e
halves-within v h w =
    let f = rw (pow-succ' 2 h) at w.first in
    let l = rw (pow-succ' 2 h) at w.last in
    (record { first = omega arith; last = omega arith }, record { first = omega arith; last = omega arith })

half_under : (v h x : ℕ) → Under (2 * v) h x ⊎ Under (2 * v + 1) h x → Under v (suc h) x
half_under v h x (inl u) = record { first = rw (pow-succ' 2 h) (omega arith); last = rw (pow-succ' 2 h) (omega arith) }
half_under v h x (inr u) = record { first = rw (pow-succ' 2 h) (omega arith); last = rw (pow-succ' 2 h) (omega arith) }

under_half : (v h x : ℕ) → Under v (suc h) x → Under (2 * v) h x ⊎ Under (2 * v + 1) h x
under_half v h x u =
    let f = rw (pow-succ' 2 h) at u.first in
    let l = rw (pow-succ' 2 h) at u.last in
    ⊎_elim
    (λ here. inl (record { first = omega arith; last = here }))
    (λ there. inr (record { first = there; last = omega arith }))
    (cases_lt (256 + x) ((2 * v + 1) * 2 ^ h))

-- a node over a block has the block under its parent too, one level more
parity : (v : ℕ) → (v ≡ 2 * (v / 2)) ⊎ (v ≡ 2 * (v / 2) + 1)
parity v = ⊎_elim (λ p. inl (omega arith)) (λ p. inr (omega arith)) (cases_lt (v % 2) 1)

pub parent : {v h x : ℕ} → Under v h x → Under (v / 2) (h + 1) x
parent {v} {h} {x} u =
    rw (add-one h) (half_under (v / 2) h x (⊎_elim (λ e. inl (rw e at u)) (λ e. inr (rw e at u)) (parity v)))

-- a node above the leaves has halves, and the smaller of their numbers
smaller : {t : List ℕ} → Halves t → (v h : ℕ) → Within v (suc h) 256 512 → at t v ≡ min (at t (2 * v)) (at t (2 * v + 1))
smaller H v h w =
    H.node v (node_first v (suc h) w (omega arith)) (omega (arith, node_last (2 * v + 1) h (halves-within v h w).1))

-- no leaf under a node has a smaller number
pub node-lowest : {t : List ℕ} → Halves t → (h v : ℕ) {x : ℕ} → Within v h 256 512 → Under v h x → at t v ≤ leaf t x
node-lowest {t} H zero v {x} w u = let e : v ≡ 256 + x = omega arith in le_of_eq (ap (at t) e)
node-lowest {t} H (suc h) v {x} w u =
    ⊎_elim
    (λ here. let l = node-lowest H h (2 * v) (halves-within v h w).0 here in omega (arith, smaller H v h w))
    (λ there. let l = node-lowest H h (2 * v + 1) (halves-within v h w).1 there in omega (arith, smaller H v h w))
    (under_half v h x u)

-- a node above the leaves is none of them
pub inner : {v k : ℕ} → (k ≡ 0 → ⊥) → Within v k 256 512 → v < 256
inner {v} {k} n w =
    let s : k ≡ suc (k - 1) = omega arith in
    omega (arith, node_last (2 * v + 1) (k - 1) (halves-within v (k - 1) (rw s at w)).1)

-- the half to which it goes is in the tree too
pub half_within : {t : List ℕ} {v w h k f e : ℕ} → Half t v w → k ≡ suc h → Within v k f e → Within w h f e
half_within {t} {v} {w} {h} {k} {f} {e} (left is _) s i = rw is (halves-within v h (rw s at i)).0
half_within {t} {v} {w} {h} {k} {f} {e} (right is _) s i = rw is (halves-within v h (rw s at i)).1

-- the left half has the node's number where its own is not the greater; else the right half has it, and no leaf under the left half
half_descended : {t : List ℕ} {v w r : ℕ} (h : ℕ) → Half t v w → Within v (suc h) 256 512 → Descended t w h r → Descended t v (suc h) r
half_descended {t} {v} {w} {r} h (left is low) i down =
    let d = rw is at down in
    record {
      under = half_under v h r (inl d.under);
      lowest = λ H. let e = d.lowest H in omega (arith, smaller H v h i);
      leftmost = λ H x f l. d.leftmost H x (omega (arith, rw (pow-succ' 2 h) at f)) l;
    }
half_descended {t} {v} {w} {r} h (right is high) i down =
    let d = rw is at down in
    let u = half_under v h r (inr d.under) in
    record {
      under = u;
      lowest = λ H. let e = d.lowest H in omega (arith, smaller H v h i);
      leftmost = λ H x f l.
          ⊎_elim
          (λ here. let e = d.lowest H in omega (arith, smaller H v h i, node-lowest H h (2 * v) (halves-within v h i).0 here))
          (λ there. d.leftmost H x there.first l)
          (under_half v h x (record { first = f; last = omega (arith, u.last) }));
    }

pub descend_half : {t : List ℕ} {v w r h k : ℕ} → Half t v w → k ≡ suc h → Within v k 256 512 → Descended t w h r → Descended t v k r
descend_half {t} {v} {w} {r} {h} {k} half s i d =
    rw s (half_descended h half (rw s at i) d)
