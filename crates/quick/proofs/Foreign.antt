-- What `ok_or(Refusal::Foreign)?` tells: that there was a value, or that there was none and 9 is handed on.
-- Assumes nothing.
use mathlib.Core.Path.{◌≡◌, refl, ◌∙◌}
use Prim.Native.Nat.{ℕ}
use Rattle.std.specs.Prelude.{Option, Some, None, Result, Ok, Err, ok_or}
use Rattle.std.specs.Result.{IsErrAnd}
use Rattle.answers.specs.declared.Refusal.{Refusal}
use Rattle.answers.specs.declared.Refusal.TheVariants.{Foreign}
use Rattle.answers.proofs.Said.{handed_on}

pub was_some : (o : Option ℕ) (x : ℕ) → ◌≡◌ {A = Result ℕ Refusal} (Ok x) (ok_or o Foreign) → o ≡ Some x
was_some None x e = cc
was_some (Some y) x e = cc

pub was_none : (o : Option ℕ) (y : Refusal) (r : Result ℕ Refusal) → ◌≡◌ {A = Result ℕ Refusal} (Err y) (ok_or o Foreign) → IsErrAnd r (λ z. z ≡ y) → (o ≡ None) × (r ≡ Err Foreign)
was_none None y r e h = (refl, handed_on r y h ∙ e)
was_none (Some x) y r e h = cc
