-- A tree with the stand-in's numbers: at each root the excess just after its closing. It is ordered, and written out as the tree is; so the
-- stand-in of a balanced sequence is a column whose shape is that sequence. Assumes nothing.
use mathlib.Core.Path.{◌≡◌, refl, sym, ◌∙◌}
use Prim.Native.Nat.{ℕ, suc, ◌≤◌, ◌<◌}
use mathlib.Core.List.{List, [], ◌++◌, append_assoc, append-nil}
use native.Mathlib.Omega.{arith}
use lib.ListN.{length, get_or}
use lib.Seq.{get_or-append_seam}
use Rattle.rules.specs.Shape.{Paren, shape}
use Rattle.rules.specs.Excess.{closings, Balanced}
use Rattle.rules.specs.StandIn.{stand_in}
use Rattle.rules.proofs.Least.{lowest-joined, lowest-smallest}
use Rattle.rules.proofs.StandIn.{stand_in_from, stand_in_walk, stand_in_length, stand_in_bound}
use Rattle.theory.proofs.Tree.{Tree, tip, node, column, written}
use Rattle.theory.proofs.Ordered.{Ordered, ordered_shape}
use Rattle.theory.proofs.Written.{written-closings, written-balanced}
use Rattle.theory.proofs.Parse.{balanced_tree}

-- with an excess of e before its first parenthesis
unfoldable pub stand_in_tree : ℕ → Tree → Tree
stand_in_tree e tip = tip
stand_in_tree e (node l m r) = node (stand_in_tree (suc e) l) e (stand_in_tree e r)

written_same : (e : ℕ) (t : Tree) → written (stand_in_tree e t) ≡ written t
unfolding written stand_in_tree
written_same e tip = refl
written_same e (node l m r) = rw (written_same (suc e) l, written_same e r)

pub length_same : (e : ℕ) (t : Tree) → length (column (stand_in_tree e t)) ≡ length (column t)
length_same e t = sym (written-closings (stand_in_tree e t)) ∙ rw (written_same e t) (written-closings t)

-- its numbers are at least e
at_least : (e : ℕ) (t : Tree) (k : ℕ) → k < length (column (stand_in_tree e t)) → e ≤ get_or (column (stand_in_tree e t)) k 0
unfolding column stand_in_tree
at_least e tip k h = absurd (omega arith)
at_least e (node l m r) k h =
    let L : List ℕ = column (stand_in_tree (suc e) l) in
    let R : List ℕ = column (stand_in_tree e r) in
    omega (arith, lowest-smallest (lowest-joined L e R (at_least (suc e) l) (at_least e r)) k h, get_or-append_seam L e R 0)

pub stand_in_ordered : (e : ℕ) (t : Tree) → Ordered (stand_in_tree e t)
unfolding stand_in_tree
stand_in_ordered e tip = tt
stand_in_ordered e (node l m r) =
    let L : List ℕ = column (stand_in_tree (suc e) l) in
    let R : List ℕ = column (stand_in_tree e r) in
    (stand_in_ordered (suc e) l, lowest-joined L e R (at_least (suc e) l) (at_least e r), stand_in_ordered e r)

-- its column is the stand-in
walked : (e : ℕ) (t : Tree) (s : List Paren) → stand_in_from e (written t ++ s) ≡ column (stand_in_tree e t) ++ stand_in_from e s
unfolding stand_in_from written column stand_in_tree
walked e tip s = refl
walked e (node l m r) s = rw (append_assoc (written l), walked (suc e) l, walked e r, append_assoc)

pub stand_in_column : (t : Tree) → stand_in (written t) ≡ column (stand_in_tree 0 t)
unfolding stand_in_from
stand_in_column t = stand_in_walk (written t) (written-balanced t) ∙ simp append-nil at (walked 0 t [])

pub stand_in_again : (s : List Paren) → Balanced s → shape (stand_in s) ≡ s
stand_in_again s b = by (balanced_tree s b)
  where
    by : (t : Tree) × (written t ≡ s) → shape (stand_in s) ≡ s
    by (t, e) = rw (← e, stand_in_column, ordered_shape (stand_in_tree 0 t) (stand_in_ordered 0 t), written_same)

-- so every balanced sequence is some column's shape, of counts no greater than its length
pub balanced-column : (s : List Paren) → Balanced s → (c : List ℕ) × (length c ≡ closings s) × (shape c ≡ s) × ((k : ℕ) → get_or c k 0 ≤ closings s)
balanced-column s b = (stand_in s, stand_in_length s, stand_in_again s b, stand_in_bound s b)
