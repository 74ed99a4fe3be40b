-- A column's tree is ordered, and the shape of an ordered tree's column is the tree written out: the two make `shape_tree`. Assumes nothing.
use mathlib.Core.Path.{◌≡◌}
use Prim.Native.Nat.{ℕ, ◌-◌, ◌<◌, zero-le}
use mathlib.Core.List.{List, [], ◌∷◌, ◌++◌}
use native.Mathlib.Omega.{arith}
use lib.ListN.{length, length-append}
use lib.Seq.{take-append_seam, drop-append-add}
use Rattle.rules.specs.Column.{least}
use Rattle.rules.specs.Shape.{shape}
use Rattle.rules.proofs.Least.{lowest-least}
use Rattle.rules.proofs.Shape.{shape_none, shape_some}
use Rattle.theory.proofs.Tree.{Tree, tip, node, column, written, tree_of, column_tree}
pub use Rattle.theory.proofs.Pushed.{Ordered}
use Rattle.theory.proofs.Pushed.{push_ordered}

pub tree_ordered : (c : List ℕ) → Ordered (tree_of c)
unfolding tree_of
tree_ordered [] = tt
tree_ordered (a ∷ c) = push_ordered a (tree_of c) (tree_ordered c)

pub ordered_shape : (t : Tree) → Ordered t → shape (column t) ≡ written t
unfolding column written
ordered_shape tip o = shape_none
ordered_shape (node l m r) o =
    let L : List ℕ = column l in
    let R : List ℕ = column r in
    let some : 0 < length (L ++ m ∷ R) = simp length-append (omega arith) in
    let p : least (L ++ m ∷ R) 0 (length (L ++ m ∷ R) - 1) ≡ length L = lowest-least o.1 0 _ zero-le (omega (arith, o.1)) (omega arith) in
    rw (shape_some, p, take-append_seam, drop-append-add L (m ∷ R) 1, ordered_shape l o.0, ordered_shape r o.2)

pub shape_tree : (c : List ℕ) → shape c ≡ written (tree_of c)
shape_tree c = rw (column_tree c) at (ordered_shape (tree_of c) (tree_ordered c))
