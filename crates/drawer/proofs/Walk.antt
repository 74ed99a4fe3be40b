-- What it says of a walk that a record stands at a place, and that none does.
-- Assumes nothing.
use mathlib.Core.Path.{◌≡◌, refl, sym, ◌∙◌}
use Prim.Native.Nat.{ℕ, suc, ◌+◌, ◌≤◌, ◌<◌}
use native.Mathlib.Omega.{arith}
use mathlib.Core.Bool.{Bool, true, false, cond}
use mathlib.Core.List.{List}
use borrow.Author.Tests.{lt-ltb, ltb-true, ltb-false}
use lib.Dec.{ltb}
use lib.ListN.{length, drop}
use Rattle.rules.specs.Bytes.{record_length}
use Rattle.rules.specs.Refusal.{Outcome, answer, refusal}
use Rattle.rules.specs.Order.{frame_says}
use Rattle.rules.specs.Drawer.{found, lost, if_framed, seek}
use Rattle.rules.proofs.Drawer.{frame-within, seek_end, seek_fault, seek-on}

-- a record of n entries is framed at this place
pub record Stands (d : List ℕ) (at p l : ℕ) : Type 0 where
  pub n : ℕ
  pub framed : frame_says (drop at d) ≡ answer n
  pub here : p ≡ at
  pub size : l ≡ record_length n

pub stands : (d : List ℕ) (at p l : ℕ) → seek d 0 at ≡ found p l → Stands d at p l
unfolding seek
stands d at p l e = by (ltb at (length d)) (frame_says (drop at d)) refl e
  where
    by : (t : Bool) (o : Outcome) → frame_says (drop at d) ≡ o → cond t (if_framed o (λ m. found at m)) (lost 10) ≡ found p l → Stands d at p l
    by true (answer n) f e = record { n = n; framed = f; here = cc; size = cc }
    by true (refusal k) f e = cc
    by false o f e = cc

-- it ends within the drawer, behind this place, and the walk goes on there
pub ends-within : (d : List ℕ) (at p l : ℕ) → seek d 0 at ≡ found p l → (p ≡ at) × (4 ≤ l) × (p + l ≤ length d)
ends-within d at p l e =
    let s = stands d at p l e in
    (s.here, omega (arith, s.size), omega (arith, s.here, s.size, frame-within d at s.n s.framed))

pub walks-on : (d : List ℕ) (at p l r : ℕ) → seek d 0 at ≡ found p l → seek d (suc r) at ≡ seek d r (p + l)
walks-on d at p l r e = let s = stands d at p l e in rw (s.here, s.size) (seek-on d at s.n s.framed r)

-- where a byte stands, it is the frame that refuses
pub faulty : (d : List ℕ) (at x : ℕ) → at < length d → seek d 0 at ≡ lost x → frame_says (drop at d) ≡ refusal x
unfolding seek
faulty d at x h e = by (frame_says (drop at d)) (rw (lt-ltb at (length d) h) at e)
  where
    by : (o : Outcome) → if_framed o (λ m. found at m) ≡ lost x → o ≡ refusal x
    by (answer n) e = cc
    by (refusal k) e = cc

-- and whatever is sought from there on, that refusal decides
pub ends-lost : (d : List ℕ) (at r x : ℕ) → seek d 0 at ≡ lost x → seek d r at ≡ lost x
ends-lost d at r x e = by (ltb at (length d)) refl
  where
    by : (t : Bool) → ltb at (length d) ≡ t → seek d r at ≡ lost x
    by true h = seek_fault d r at x (ltb-true at (length d) h) (faulty d at x (ltb-true at (length d) h) e)
    by false h =
        let past : length d ≤ at = ltb-false at (length d) h in
        seek_end d r at past ∙ sym (seek_end d 0 at past) ∙ e
