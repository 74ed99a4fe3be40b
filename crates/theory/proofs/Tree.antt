-- The Cartesian tree of a column, ties to the left: the shape's recursion as a data type, which every proof about shapes goes by.
-- The builder adds entries at the front, so a column's tree is made by `push`, from the right end.
-- Assumes nothing.
use mathlib.Core.Path.{◌≡◌, refl}
use Prim.Native.Nat.{ℕ, suc}
use mathlib.Core.Bool.{Bool, true, false, cond}
use mathlib.Core.List.{List, [], ◌∷◌, ◌++◌}
use lib.Dec.{leb}
use Rattle.rules.specs.Shape.{Paren, opening, closing}

pub data Tree : Type 0 where
  tip : Tree
  node : Tree → ℕ → Tree → Tree

-- the column whose tree it is
unfoldable pub column : Tree → List ℕ
column tip = []
column (node l m r) = column l ++ m ∷ column r

-- its parentheses
unfoldable pub written : Tree → List Paren
written tip = []
written (node l m r) = opening ∷ written l ++ closing ∷ written r

-- one more entry at the front: above the root where it is at most the root's, else into the left part
unfoldable pub push : ℕ → Tree → Tree
push a tip = node tip a tip
push a (node l m r) = cond (leb a m) (node tip a (node l m r)) (node (push a l) m r)

unfoldable pub tree_of : List ℕ → Tree
tree_of [] = tip
tree_of (a ∷ c) = push a (tree_of c)

-- the places from the root down the left side: how many openings the parentheses begin with
unfoldable pub spine : Tree → ℕ
spine tip = 0
spine (node l m r) = suc (spine l)

-- ---- what `push` keeps

pub column-push : (a : ℕ) (t : Tree) → column (push a t) ≡ a ∷ column t
unfolding column push
column-push a tip = refl
column-push a (node l m r) = by (leb a m) (column-push a l)
  where
    by : (b : Bool) → column (push a l) ≡ a ∷ column l → column (cond b (node tip a (node l m r)) (node (push a l) m r)) ≡ a ∷ column (node l m r)
    by true e = refl
    by false e = rw e

-- a column's tree is its tree
pub column_tree : (c : List ℕ) → column (tree_of c) ≡ c
unfolding column tree_of
column_tree [] = refl
column_tree (a ∷ c) = rw (column-push, column_tree c)
