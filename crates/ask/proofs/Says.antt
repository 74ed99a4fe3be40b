-- What the plain ask says, by what the record check has said.
-- Assumes nothing.
use mathlib.Core.Path.{◌≡◌}
use Prim.Native.Nat.{ℕ, ◌≤◌, ◌<◌}
use mathlib.Core.List.{List}
use borrow.Author.Tests.{lt-ltb, le-ltb}
use Rattle.rules.specs.Excess.{entry_between}
use Rattle.rules.specs.Bytes.{parens}
use Rattle.rules.specs.Refusal.{answer, refusal}
use Rattle.rules.specs.Order.{check_says, ask_says}

pub ask-refused : (r : List ℕ) (i j : ℕ) {k : ℕ} → check_says r ≡ refusal k → ask_says r i j ≡ refusal k
unfolding ask_says
ask-refused r i j e = rw e

module _ (r : List ℕ) (i j : ℕ) {n : ℕ} (e : check_says r ≡ answer n) where
  pub ask_crossed : j < i → ask_says r i j ≡ refusal 8
  unfolding ask_says
  ask_crossed h = rw (e, lt-ltb j i h)

  pub ask_outside : i ≤ j → n ≤ j → ask_says r i j ≡ refusal 8
  unfolding ask_says
  ask_outside h l = rw (e, le-ltb j i h, le-ltb j n l)

  pub ask-answered : i ≤ j → j < n → ask_says r i j ≡ answer (entry_between (parens n r) i j)
  unfolding ask_says
  ask-answered h l = rw (e, le-ltb j i h, lt-ltb j n l)
