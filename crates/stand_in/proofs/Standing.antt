-- From what the record check says to the contract of `stand_in`.
-- Assumes nothing.
use mathlib.Core.Path.{◌≡◌, sym}
use Prim.Native.Nat.{ℕ, ◌≤◌, ◌<◌}
use mathlib.Core.List.{List, ◌++◌}
use borrow.Author.Tests.{lt-ltb, le-ltb}
use lib.ListN.{length, drop}
use Rattle.rules.specs.StandIn.{stand_in}
use Rattle.rules.specs.Bytes.{parens}
use Rattle.rules.specs.Refusal.{answer, refusal}
use Rattle.rules.specs.Order.{check_says, stand_in_says, column_after}
use Rattle.rules.proofs.Checked.{says_checked}
use Rattle.answers.specs.declared.Refusal.{Refusal}
use Rattle.answers.specs.declared.Refusal.TheVariants.{OutputShort}
use Rattle.std.specs.Prelude.{Ok, Err}
use Rattle.answers.specs.Said.{number}
use Rattle.stand_in.specs.StandsIn.{StandsIn}

refused : (r col : List ℕ) (x : Refusal) → stand_in_says r (length col) ≡ refusal (number x) → StandsIn r col (Err x) col
unfolding column_after
refused r col x e = record { says = sym e; column = rw e }

pub check-refused : (r col : List ℕ) (x : Refusal) → check_says r ≡ refusal (number x) → StandsIn r col (Err x) col
unfolding stand_in_says
check-refused r col x e = refused r col x (rw e)

pub room-refused : (r col : List ℕ) (n : ℕ) → check_says r ≡ answer n → length col < n → StandsIn r col (Err OutputShort) col
unfolding stand_in_says
room-refused r col n e l = refused r col OutputShort (rw (e, lt-ltb (length col) n l))

pub stands_in : {r col col' : List ℕ} {n : ℕ} → check_says r ≡ answer n → n ≤ length col → col' ≡ stand_in (parens n r) ++ drop n col → StandsIn r col (Ok n) col'
unfolding stand_in_says column_after
stands_in {r} {col} {n = n} accepted room e =
    let says : stand_in_says r (length col) ≡ answer n = rw (accepted, le-ltb (length col) n room) in
    record { says = sym says; column = rw (says, (says_checked r n accepted).framed.says) e }
