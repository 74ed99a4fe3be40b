-- Every balanced sequence is some tree written out. A sequence begun at an excess of e is e + 1 trees with a closing between each two.
-- Assumes nothing.
use mathlib.Core.Path.{◌≡◌, refl}
use Prim.Native.Nat.{ℕ, zero, suc}
use mathlib.Core.List.{List, [], ◌∷◌, ◌++◌, append_assoc}
use native.Mathlib.Omega.{arith}
use Rattle.rules.specs.Shape.{Paren, opening, closing}
use Rattle.rules.specs.Excess.{openings, closings, Balanced, balanced}
use Rattle.rules.proofs.Excess.{Kept, kept-opening, kept-closing, kept_not_closed, kept_is, is_balanced}
use Rattle.theory.proofs.Tree.{Tree, tip, node, written}

data Trees : ℕ → List Paren → Type 0 where
  one : (t : Tree) → Trees 0 (written t)
  more : {e : ℕ} {s : List Paren} (t : Tree) → Trees e s → Trees (suc e) (written t ++ closing ∷ s)

-- an opening makes one tree of the first two
opened : {e : ℕ} {s : List Paren} → Trees (suc e) s → Trees e (opening ∷ s)
unfolding written
opened (more t (one u)) = one (node t 0 u)
opened (more t (more u p)) = rw append_assoc at (more (node t 0 u) p)

parsed : (e : ℕ) (s : List Paren) → Kept e s → Trees e s
unfolding written openings closings
parsed zero [] h = one tip
parsed (suc e) [] h = absurd (omega (arith, h.last))
parsed e (opening ∷ s) h = opened (parsed (suc e) s (kept-opening e s h))
parsed zero (closing ∷ s) h = absurd (kept_not_closed s h)
parsed (suc e) (closing ∷ s) h = more tip (parsed e s (kept-closing e s h))

pub balanced_tree : (s : List Paren) → Balanced s → (t : Tree) × (written t ≡ s)
unfolding balanced
balanced_tree s b = whole (parsed 0 s (kept_is 0 s (is_balanced s b)))
  where
    whole : {s : List Paren} → Trees 0 s → (t : Tree) × (written t ≡ s)
    whole (one t) = (t, refl)
