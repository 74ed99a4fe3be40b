-- The document's two sentences about a column's shape, with no count of how deep the recursion goes. Everything else goes by these.
-- Assumes nothing.
use mathlib.Core.Path.{◌≡◌, refl}
use Prim.Native.Nat.{ℕ, zero, suc, ◌+◌, ◌-◌, ◌≤◌, ◌<◌, zero-le}
use mathlib.Core.List.{List, [], ◌∷◌, ◌++◌}
use native.Mathlib.Nat.{le_refl}
use native.Mathlib.Numerals.{add-one}
use native.Mathlib.Omega.{arith}
use lib.ListN.{length, take, drop, length-take, length-drop}
use Rattle.rules.specs.Column.{least}
use Rattle.rules.specs.Shape.{opening, closing, shape_of, shape}
use Rattle.rules.proofs.Least.{least_is}

-- the parts are shorter than the whole
before_shorter : (x : ℕ) (c : List ℕ) → length (take (least (x ∷ c) 0 (length c)) (x ∷ c)) ≤ length c
before_shorter x c = simp length-take (omega (arith, least_is (x ∷ c) 0 (length c) zero-le))

after_shorter : (p : ℕ) (c : List ℕ) → length (drop p c) ≤ length c
after_shorter p c = simp length-drop (omega arith)

-- any count that is large enough does
enough : (f g : ℕ) (c : List ℕ) → length c ≤ f → length c ≤ g → shape_of f c ≡ shape_of g c
unfolding shape_of
enough zero zero c a b = refl
enough zero (suc g) [] a b = refl
enough zero (suc g) (x ∷ c) a b = absurd (omega arith)
enough (suc f) zero [] a b = refl
enough (suc f) zero (x ∷ c) a b = absurd (omega arith)
enough (suc f) (suc g) [] a b = refl
enough (suc f) (suc g) (x ∷ c) a b =
    let p : ℕ = least (x ∷ c) 0 (length c) in
    let before : shape_of f (take p (x ∷ c)) ≡ shape_of g (take p (x ∷ c)) =
    enough f g (take p (x ∷ c)) (omega (arith, before_shorter x c)) (omega (arith, before_shorter x c)) in
    let after : shape_of f (drop p c) ≡ shape_of g (drop p c) =
    enough f g (drop p c) (omega (arith, after_shorter p c)) (omega (arith, after_shorter p c)) in
    cc

pub shape_none : shape [] ≡ []
unfolding shape shape_of
shape_none = refl

pub shape_some : (c : List ℕ) → 0 < length c
    → shape c ≡ opening ∷ shape (take (least c 0 (length c - 1)) c) ++ closing ∷ shape (drop (least c 0 (length c - 1) + 1) c)
unfolding shape shape_of
shape_some [] h = absurd (omega arith)
shape_some (x ∷ c) h =
    let e : suc (length c) - 1 ≡ length c = omega arith in
    let p : ℕ = least (x ∷ c) 0 (length c) in
    rw (e, add-one)
    (cc (
      enough (length c) (length (take p (x ∷ c))) (take p (x ∷ c)) (before_shorter x c) (le_refl _),
      enough (length c) (length (drop p c)) (drop p c) (after_shorter p c) (le_refl _),
    ))
