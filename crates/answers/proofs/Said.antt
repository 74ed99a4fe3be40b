-- Two answers of which the same is said are equal: no two refusals share a number.
-- Assumes nothing.
use mathlib.Core.Path.{◌≡◌, refl, sym, ap, ◌∙◌}
use Rattle.std.specs.Prelude.{Result, Ok, Err}
use Rattle.std.specs.Result.{IsErrAnd}
use Rattle.std.proofs.lemmas.Result.{err_from_is_err_and}
use mathlib.Core.List.{List, [], ◌∷◌}
use lib.ListN.{get_or}
use Rattle.rules.specs.Refusal.{Outcome, answer, refusal}
use Rattle.answers.specs.declared.Refusal.{Refusal}
use Rattle.answers.specs.declared.Refusal.TheVariants.{TooManyEntries, OutputShort, WorkShort, Unmarked, CutShort, UnusedBit, Unbalanced, OutOfRange, Foreign, NoRecord, BytesAfter, DrawerLong, UsedWrong, DrawerFull}
use Rattle.answers.specs.Said.{Answer, said, number}

-- the refusals in the order of their numbers; nothing has number 0
table : List Refusal
table =
    TooManyEntries ∷ TooManyEntries ∷ OutputShort ∷ WorkShort ∷ Unmarked ∷ CutShort ∷ UnusedBit ∷ Unbalanced ∷ OutOfRange ∷ Foreign ∷ NoRecord ∷ BytesAfter ∷ DrawerLong ∷ UsedWrong ∷ DrawerFull ∷ []

back : Outcome → Answer
back (answer v) = Ok v
back (refusal k) = Err (get_or table k TooManyEntries)

there_and_back : (a : Answer) → back (said a) ≡ a
unfolding back table
there_and_back (Ok v) = refl
there_and_back (Err TooManyEntries) = refl
there_and_back (Err OutputShort) = refl
there_and_back (Err WorkShort) = refl
there_and_back (Err Unmarked) = refl
there_and_back (Err CutShort) = refl
there_and_back (Err UnusedBit) = refl
there_and_back (Err Unbalanced) = refl
there_and_back (Err OutOfRange) = refl
there_and_back (Err Foreign) = refl
there_and_back (Err NoRecord) = refl
there_and_back (Err BytesAfter) = refl
there_and_back (Err DrawerLong) = refl
there_and_back (Err UsedWrong) = refl
there_and_back (Err DrawerFull) = refl

pub said_once : (a b : Answer) → said a ≡ said b → a ≡ b
said_once a b e = sym (there_and_back a) ∙ ap back e ∙ there_and_back b

-- two answers that say what a rule says are one
pub one : {o : Outcome} (a b : Answer) → said a ≡ o → said b ≡ o → a ≡ b
one a b e f = said_once a b (e ∙ sym f)

-- a refusal that a `?` hands on is the one that came
pub handed_on : {T : Type 0} (r : Result T Refusal) (x : Refusal) → IsErrAnd r (λ y. y ≡ x) → r ≡ Err x
handed_on r x h = let (y, e, f) = err_from_is_err_and r h in e ∙ ap Err f

-- and the same is said of it
pub said_on : (r : Answer) (x : Refusal) → IsErrAnd r (λ y. y ≡ x) → said r ≡ refusal (number x)
said_on r x h = ap said (handed_on r x h)
