-- Two sequences of parentheses compared by a test that computes.
-- Assumes nothing.
use mathlib.Core.Path.{◌≡◌, refl, ap}
use mathlib.Core.Bool.{Bool, true, false}
use mathlib.Core.List.{List, [], ◌∷◌}
use lib.Dec.{T}
use Rattle.rules.specs.Shape.{Paren, opening, closing}

abbrev pub same : List Paren → List Paren → Bool
same [] [] = true
same [] (q ∷ t) = false
same (opening ∷ s) [] = false
same (closing ∷ s) [] = false
same (opening ∷ s) (opening ∷ t) = same s t
same (opening ∷ s) (closing ∷ t) = false
same (closing ∷ s) (opening ∷ t) = false
same (closing ∷ s) (closing ∷ t) = same s t

pub same_eq : (s t : List Paren) → T (same s t) → s ≡ t
same_eq [] [] h = refl
same_eq [] (q ∷ t) h = absurd h
same_eq (opening ∷ s) [] h = absurd h
same_eq (closing ∷ s) [] h = absurd h
same_eq (opening ∷ s) (opening ∷ t) h = ap {B = List Paren} (λ l. opening ∷ l) (same_eq s t h)
same_eq (opening ∷ s) (closing ∷ t) h = absurd h
same_eq (closing ∷ s) (opening ∷ t) h = absurd h
same_eq (closing ∷ s) (closing ∷ t) h = ap {B = List Paren} (λ l. closing ∷ l) (same_eq s t h)
