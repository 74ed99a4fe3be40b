-- A tree is ordered when each root stands at the leftmost smallest place of its column, and one more entry at the front leaves it so.
-- Assumes nothing.
use mathlib.Core.Path.{◌≡◌, refl}
use Prim.Native.Nat.{ℕ}
use mathlib.Core.Bool.{Bool, true, false, cond}
use mathlib.Core.List.{◌∷◌, ◌++◌}
use native.Mathlib.Omega.{arith}
use borrow.Author.Tests.{leb-true, leb-false}
use lib.Dec.{leb}
use lib.ListN.{length, get_or}
use lib.Seq.{get_or-append_seam}
use Rattle.rules.proofs.Least.{Lowest, lowest_only, lowest_first, lowest-later}
use Rattle.theory.proofs.Tree.{Tree, tip, node, column, push, column-push}

abbrev pub Ordered : Tree → Type 0
Ordered tip = Unit
Ordered (node l m r) = Ordered l × Lowest (column l ++ m ∷ column r) (length (column l)) × Ordered r

pub push_ordered : (a : ℕ) (t : Tree) → Ordered t → Ordered (push a t)
unfolding push column
push_ordered a tip o = (tt, lowest_only a, tt)
push_ordered a (node l m r) o = by (leb a m) refl (push_ordered a l o.0)
  where
    root : get_or (column l ++ m ∷ column r) (length (column l)) 0 ≡ m
    root = get_or-append_seam (column l) m (column r) 0

    by : (b : Bool) → leb a m ≡ b → Ordered (push a l) → Ordered (cond b (node tip a (node l m r)) (node (push a l) m r))
    by true e p = (tt, lowest_first o.1 (omega (arith, leb-true, root)), o)
    by false e p = (p, rw (column-push a l) (lowest-later o.1 (omega (arith, leb-false, root))), o.2)
