-- What a tree writes is balanced and has a closing for each entry; so a shape does, and a column of n entries has 2n parentheses.
-- Assumes nothing.
use mathlib.Core.Path.{◌≡◌, refl, ◌∙◌}
use Prim.Native.Nat.{ℕ, suc, ◌*◌}
use mathlib.Core.List.{List, [], ◌∷◌, ◌++◌, append_assoc, append-nil}
use native.Mathlib.Omega.{arith}
use lib.ListN.{length, length-append}
use Rattle.rules.specs.Shape.{Paren, closing, shape}
use Rattle.rules.specs.Excess.{closings, Balanced, balanced_from, balanced}
use Rattle.rules.proofs.Excess.{closings-append, counts-length, balanced_is}
use Rattle.theory.proofs.Tree.{Tree, tip, node, column, written, tree_of, column_tree}
use Rattle.theory.proofs.Ordered.{shape_tree}

pub written-closings : (t : Tree) → closings (written t) ≡ length (column t)
unfolding closings written column
written-closings tip = refl
written-closings (node l m r) =
    simp (closings-append, length-append) (omega (arith, written-closings l, written-closings r))

-- it ends at the excess it began with, never below
written-kept : (e : ℕ) (t : Tree) (s : List Paren) → balanced_from e (written t ++ s) ≡ balanced_from e s
unfolding balanced_from written
written-kept e tip s = refl
written-kept e (node l m r) s =
    rw append_assoc (written-kept (suc e) l (closing ∷ written r ++ s) ∙ written-kept e r s)

pub written-balanced : (t : Tree) → Balanced (written t)
unfolding balanced_from balanced
written-balanced t = balanced_is (written t) (rw append-nil at (written-kept 0 t []))

pub shape-closings : (c : List ℕ) → closings (shape c) ≡ length c
shape-closings c = rw (shape_tree c, written-closings, column_tree)

pub shape-balanced : (c : List ℕ) → Balanced (shape c)
shape-balanced c = rw (shape_tree c) (written-balanced (tree_of c))

pub shape-length : (c : List ℕ) → length (shape c) ≡ 2 * length c
shape-length c = omega (arith, counts-length (shape c), shape-closings c, shape-balanced c)
