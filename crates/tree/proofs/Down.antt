-- The climb and then the descent: what they come to is the leftmost of the lowest blocks between a and b.
-- Assumes nothing.
use mathlib.Core.Path.{◌≡◌, sym, ◌∙◌}
use mathlib.Core.Logic.{⊎_elim}
use Prim.Native.Nat.{ℕ, ◌+◌, ◌*◌, ◌^◌, ◌≤◌, ◌<◌}
use native.Mathlib.Omega.{arith}
use mathlib.Core.List.{List}
use Rattle.std.proofs.lemmas.Bool.{cases_lt}
use Rattle.tree.specs.declared.Best.{Best}
use Rattle.tree.specs.Tree.{leaf, Halves, Descended, Held}

pub record Leftmost (t : List ℕ) (a b low r : ℕ) : Type 0 where
  pub after : a < r
  pub before : r < b
  pub number : Halves t → leaf t r ≡ low
  pub lowest : Halves t → (x : ℕ) → a < x → x < b → low ≤ leaf t x
  pub leftmost : Halves t → (x : ℕ) → a < x → x < r → low < leaf t x

pub comes_down : {t : List ℕ} {a b r : ℕ} {best : Best} → Held t (257 + a) (256 + b) best → Descended t best.node best.level r
    → Leftmost t a b best.low r
comes_down {t} {a} {b} {r} {best} held down =
    let w = held.within in
    let u = down.under in
    let same : Halves t → leaf t r ≡ best.low = λ H. down.lowest H ∙ sym held.number in
    record {
      after = omega arith;
      before = omega arith;
      number = same;
      lowest = λ H x p q. held.lowest H x (omega arith) (omega arith);
      leftmost = λ H x p q.
          ⊎_elim
          (λ s. held.leftmost H x (omega arith) s)
          (λ s. omega (arith, same H, down.leftmost H x s q))
          (cases_lt (256 + x) (best.node * 2 ^ best.level));
    }
