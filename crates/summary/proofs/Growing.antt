-- The tree grows node by node.
-- Assumes nothing.
use mathlib.Core.Path.{◌≡◌, refl, ◌∙◌}
use Prim.Native.Nat.{ℕ, min, ◌+◌, ◌-◌, ◌*◌, ◌≤◌, ◌<◌}
use native.Mathlib.Omega.{arith}
use mathlib.Core.Bool.{Bool, true, false, cond}
use mathlib.Core.List.{List}
use borrow.Author.Tests.{lt-ltb, le-ltb, ltb-true}
use lib.Dec.{ltb}
use lib.ListN.{get_or, set}
use Rattle.rules.specs.Shape.{Paren}
use Rattle.rules.specs.Summary.{none, slot}
use Rattle.rules.proofs.Summary.{slot-node, node-halves}
use Rattle.summary.specs.Laid.{Holds, grown_to, Grows}
use Rattle.summary.proofs.Slots.{same_test, stored}

-- ---- a node

-- past node v
pub grown_past : (s : List Paren) (v x : ℕ) → 257 + v ≤ x → grown_to s v x ≡ slot s x
unfolding grown_to
grown_past s v x h = rw (lt-ltb 256 x (omega arith), le-ltb x (257 + v) h)

-- and once there is no node left
pub grown_all : (s : List Paren) (x : ℕ) → grown_to s 0 x ≡ slot s x
unfolding grown_to
grown_all s x = by (ltb 256 x) refl
  where
    by : (b : Bool) → ltb 256 x ≡ b → cond b (cond (ltb x 257) none (slot s x)) (slot s x) ≡ slot s x
    by true e = rw (le-ltb x 257 (let h = ltb-true 256 x e in omega arith))
    by false e = refl

slot-halves : (s : List Paren) (v : ℕ) → 1 ≤ v → v < 256 → slot s (256 + v) ≡ min (slot s (256 + 2 * v)) (slot s (257 + 2 * v))
slot-halves s v some small =
    let e : 256 + (2 * v + 1) ≡ 257 + 2 * v = omega arith in
    slot-node s v some (omega arith)
    ∙ node-halves s v some small
    ∙ rw (← e, slot-node s (2 * v) (omega arith) (omega arith), slot-node s (2 * v + 1) (omega arith) (omega arith))

grown-node : (s : List Paren) {t : List ℕ} (v : ℕ) → 0 < v → v < 256 → Holds (grown_to s v) t
    → Holds (grown_to s (v - 1)) (set t (256 + v) (min (get_or t (256 + 2 * v) 0) (get_or t (257 + 2 * v) 0)))
unfolding grown_to
grown-node s {t} v some small h =
    stored (grown_to s (v - 1)) (256 + v) (min (get_or t (256 + 2 * v) 0) (get_or t (257 + 2 * v) 0)) h (omega arith) here
    (λ x l n. rw (same_test x (257 + (v - 1)) (257 + v) (λ a. omega arith) (λ a. omega arith)))
  where
    here : grown_to s (v - 1) (256 + v) ≡ min (get_or t (256 + 2 * v) 0) (get_or t (257 + 2 * v) 0)
    here =
        grown_past s (v - 1) (256 + v) (omega arith)
        ∙ slot-halves s v some small
        ∙ rw (h.first (256 + 2 * v) (omega arith), h.first (257 + 2 * v) (omega arith), grown_past s v (256 + 2 * v) (omega arith), grown_past s v (257 + 2 * v) (omega arith))

pub grows_on : {t t' : List ℕ} {x : ℕ} (v : ℕ) → 0 < v → v < 256 → Grows v t t' → x ≡ min (get_or t' (256 + 2 * v) 0) (get_or t' (257 + 2 * v) 0)
    → Grows (v - 1) t (set t' (256 + v) x)
grows_on v some small grows e =
    record { holds = λ s h. rw e (grown-node s v some small (grows.holds s h)) }
