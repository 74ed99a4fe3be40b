-- Two columns have one shape exactly where their leftmost smallest entries stand at the same places; a column and the stand-in of its shape do.
-- So an ask by excess gives the column's own leftmost smallest entry. Assumes nothing.
use mathlib.Core.Path.{◌≡◌, sym, ap, ◌∙◌}
use Prim.Native.Nat.{ℕ, suc, ◌+◌, ◌-◌, ◌≤◌, ◌<◌, zero-le}
use mathlib.Core.List.{List, [], ◌∷◌, ◌++◌}
use native.Mathlib.Nat.{add_left_cancel}
use native.Mathlib.Decide.{dec_lt}
use native.Mathlib.Omega.{arith}
use lib.ListN.{length, take, drop, length-append, length-take, length-drop}
use lib.Seq.{take-append_seam, drop-append-add}
use Rattle.rules.specs.Column.{least, Alike}
use Rattle.rules.specs.Shape.{shape}
use Rattle.rules.specs.Excess.{closings, entry_between}
use Rattle.rules.specs.Bytes.{column_record}
use Rattle.rules.specs.StandIn.{stand_in}
use Rattle.rules.proofs.Least.{least-take, least-drop, Lowest, lowest-least}
use Rattle.rules.proofs.Shape.{shape_none, shape_some}
use Rattle.rules.proofs.Between.{between_stand_in}
use Rattle.theory.proofs.Tree.{Tree, tip, node, column, written, tree_of, column_tree}
use Rattle.theory.proofs.Ordered.{Ordered, tree_ordered, shape_tree}
use Rattle.theory.proofs.Written.{shape-closings}
use Rattle.theory.proofs.StandInTree.{stand_in_tree, length_same, stand_in_ordered, stand_in_column}

-- ---- a column cut at m

module _ (l : List ℕ) (m : ℕ) (r : List ℕ) (i j : ℕ) (h : i ≤ j) where
  least_before : j < length l → least (l ++ m ∷ r) i j ≡ least l i j
  least_before b = rw take-append_seam at (least-take (length l) (l ++ m ∷ r) i j h b)

  least_after : least (l ++ m ∷ r) (length l + 1 + i) (length l + 1 + j) ≡ length l + 1 + least r i j
  least_after = rw (drop-append-add l (m ∷ r) 1) at (least-drop (length l + 1) (l ++ m ∷ r) i j h)

-- two that are cut where both are lowest, and whose parts are alike, are alike
module _ (l d : List ℕ) (m n : ℕ) (r e : List ℕ) (p : length l ≡ length d) (q : length r ≡ length e) where
  alike_after : Alike (length r) r e → (i j : ℕ) → i ≤ j → j < length r
      → least (l ++ m ∷ r) (length l + 1 + i) (length l + 1 + j) ≡ least (d ++ n ∷ e) (length l + 1 + i) (length l + 1 + j)
  alike_after g i j a b = least_after l m r i j a ∙ rw (g.same i j a b, p) (sym (least_after d n e i j a))

  alike_joined : Lowest (l ++ m ∷ r) (length l) → Lowest (d ++ n ∷ e) (length d) → Alike (length l) l d → Alike (length r) r e
      → Alike (length (l ++ m ∷ r)) (l ++ m ∷ r) (d ++ n ∷ e)
  alike_joined x y f g =
      record { same = λ i j a b. by i j a (rw length-append at b) (dec_lt j (length l)) (dec_lt (length l) i) }
    where
      by : (i j : ℕ) → i ≤ j → j < length l + suc (length r) → Dec (j < length l) → Dec (length l < i)
          → least (l ++ m ∷ r) i j ≡ least (d ++ n ∷ e) i j
      by i j a b (yes t) u = least_before l m r i j a t ∙ f.same i j a t ∙ sym (least_before d n e i j a (omega arith))
      by i j a b (no t) (yes u) =
          let ei : length l + 1 + (i - (length l + 1)) ≡ i = omega arith in
          let ej : length l + 1 + (j - (length l + 1)) ≡ j = omega arith in
          rw (ei, ej) at (alike_after g (i - (length l + 1)) (j - (length l + 1)) (omega arith) (omega arith))
      by i j a b (no t) (no u) =
          lowest-least x i j (omega arith) (omega arith) (rw length-append (omega arith))
          ∙ p
          ∙ sym (lowest-least y i j (omega arith) (omega arith) (rw length-append (omega arith)))

-- a tree's column and its stand-in
stand_in_agrees : (e : ℕ) (t : Tree) → Ordered t → Alike (length (column t)) (column t) (column (stand_in_tree e t))
unfolding column stand_in_tree
stand_in_agrees e tip o = record { same = λ i j a b. absurd (omega arith) }
stand_in_agrees e (node l m r) o =
    alike_joined (column l) (column (stand_in_tree (suc e) l)) m e (column r) (column (stand_in_tree e r))
    (sym (length_same (suc e) l))
    (sym (length_same e r))
    o.1
    (stand_in_ordered e (node l m r)).1
    (stand_in_agrees (suc e) l o.0)
    (stand_in_agrees e r o.2)

pub stand_in_alike : (c : List ℕ) (i j : ℕ) → i ≤ j → j < length c → least c i j ≡ least (stand_in (shape c)) i j
stand_in_alike c i j h b =
    rw (shape_tree c, stand_in_column)
    ((rw (column_tree c) at (stand_in_agrees 0 (tree_of c) (tree_ordered c))).same i j h b)

-- demand 2: what an ask by excess gives is the column's own
pub asked-least : (c : List ℕ) (i j : ℕ) → i ≤ j → j < length c → entry_between (shape c) i j ≡ least c i j
asked-least c i j h b =
    between_stand_in (shape c) i j h (rw shape-closings b) ∙ sym (stand_in_alike c i j h b)

-- demand 3, one way: columns of one shape are alike
pub shapes_length : (c d : List ℕ) → shape c ≡ shape d → length c ≡ length d
shapes_length c d e = sym (shape-closings c) ∙ ap closings e ∙ shape-closings d

pub shapes_alike : (c d : List ℕ) → shape c ≡ shape d → Alike (length c) c d
shapes_alike c d e = record { same = same }
  where
    same : (i j : ℕ) → i ≤ j → j < length c → least c i j ≡ least d i j
    same i j a b =
        stand_in_alike c i j a b
        ∙ ap (λ s. least (stand_in s) i j) e
        ∙ sym (stand_in_alike d i j a (omega (arith, shapes_length c d e)))

-- the other way: what is alike to a column cut at m has parts alike to its parts
module _ (l : List ℕ) (m : ℕ) (r d : List ℕ) (h : Alike (length (l ++ m ∷ r)) (l ++ m ∷ r) d) where
  alike_part_before : Alike (length l) l (take (length l) d)
  alike_part_before = record { same = same }
    where
      same : (i j : ℕ) → i ≤ j → j < length l → least l i j ≡ least (take (length l) d) i j
      same i j a b =
          sym (least_before l m r i j a b) ∙ h.same i j a (rw length-append (omega arith)) ∙ least-take (length l) d i j a b

  alike_part_after : Alike (length r) r (drop (length l + 1) d)
  alike_part_after = record { same = same }
    where
      same : (i j : ℕ) → i ≤ j → j < length r → least r i j ≡ least (drop (length l + 1) d) i j
      same i j a b =
          add_left_cancel (length l + 1)
          (sym (least_after l m r i j a)
          ∙ h.same (length l + 1 + i) (length l + 1 + j) (omega arith) (rw length-append (omega arith))
          ∙ least-drop (length l + 1) d i j a)

-- so it has the tree's shape
alike_written : (t : Tree) (d : List ℕ) → Ordered t → length (column t) ≡ length d → Alike (length (column t)) (column t) d → written t ≡ shape d
unfolding column written
alike_written tip [] o e h = sym shape_none
alike_written tip (a ∷ d) o e h = absurd (omega arith)
alike_written (node l m r) d o e h =
    let L : List ℕ = column l in
    let R : List ℕ = column r in
    let n : length L + suc (length R) ≡ length d = rw length-append at e in
    let within : length d - 1 < length (L ++ m ∷ R) = omega arith in
    let root : least d 0 (length d - 1) ≡ length L =
    sym (h.same 0 (length d - 1) zero-le within) ∙ lowest-least o.1 0 (length d - 1) zero-le (omega arith) within in
    let before : written l ≡ shape (take (length L) d) =
    alike_written l (take (length L) d) o.0 (simp length-take (omega arith)) (alike_part_before L m R d h) in
    let after : written r ≡ shape (drop (length L + 1) d) =
    alike_written r (drop (length L + 1) d) o.2 (simp length-drop (omega arith)) (alike_part_after L m R d h) in
    rw (shape_some d (omega arith), root, before, after)

alike_shapes : (c d : List ℕ) → length c ≡ length d → Alike (length c) c d → shape c ≡ shape d
alike_shapes c d e h = shape_tree c ∙ alike_written (tree_of c) d (tree_ordered c) (rw column_tree e) (rw column_tree h)

-- and so the same record
pub alike_record : (c d : List ℕ) → length c ≡ length d → Alike (length c) c d → column_record c ≡ column_record d
unfolding column_record
alike_record c d len alike = rw (len, alike_shapes c d len alike)
