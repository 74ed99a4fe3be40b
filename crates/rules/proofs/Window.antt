-- What is said of a window, by what the record check has said; and of an ask in it, by what the plain ask has said.
-- Assumes nothing.
use mathlib.Core.Path.{◌≡◌}
use Prim.Native.Nat.{ℕ, ◌≤◌, ◌<◌}
use mathlib.Core.List.{List, []}
use borrow.Author.Tests.{lt-ltb, le-ltb}
use Rattle.rules.specs.Refusal.{answer, refusal}
use Rattle.rules.specs.Order.{check_says, ask_says}
use Rattle.rules.specs.Window.{window_says, kept_bytes, kept_first, kept_last, window_ask_says}

pub window-refused : (r : List ℕ) (f l : ℕ) {k : ℕ} → check_says r ≡ refusal k → window_says r f l ≡ refusal k
unfolding window_says
window-refused r f l e = rw e

module _ (r : List ℕ) (f l : ℕ) {n : ℕ} (e : check_says r ≡ answer n) where
  pub window_crossed : l < f → window_says r f l ≡ refusal 8
  unfolding window_says
  window_crossed h = rw (e, lt-ltb l f h)

  pub window_past : f ≤ l → n ≤ l → window_says r f l ≡ refusal 8
  unfolding window_says
  window_past h g = rw (e, le-ltb l f h, le-ltb l n g)

  pub window_stands : f ≤ l → l < n → window_says r f l ≡ answer n
  unfolding window_says
  window_stands h g = rw (e, le-ltb l f h, lt-ltb l n g)

-- what is kept: all as it was passed, or nothing
pub stands_keeps : (r : List ℕ) (f l : ℕ) {n : ℕ} → window_says r f l ≡ answer n → (kept_bytes r f l ≡ r) × (kept_first r f l ≡ f) × (kept_last r f l ≡ l)
unfolding kept_bytes kept_first kept_last
stands_keeps r f l e = (rw e, rw e, rw e)

pub refused_keeps : (r : List ℕ) (f l : ℕ) {k : ℕ} → window_says r f l ≡ refusal k → (kept_bytes r f l ≡ []) × (kept_first r f l ≡ 0) × (kept_last r f l ≡ 0)
unfolding kept_bytes kept_first kept_last
refused_keeps r f l e = (rw e, rw e, rw e)

-- ---- an ask in it

pub in_refused : (b : List ℕ) (f l i j : ℕ) {k : ℕ} → ask_says b i j ≡ refusal k → window_ask_says b f l i j ≡ refusal k
unfolding window_ask_says
in_refused b f l i j e = rw e

module _ (b : List ℕ) (f l i j : ℕ) {p : ℕ} (e : ask_says b i j ≡ answer p) where
  pub in_below : i < f → window_ask_says b f l i j ≡ refusal 8
  unfolding window_ask_says
  in_below h = rw (e, lt-ltb i f h)

  pub in_above : f ≤ i → l < j → window_ask_says b f l i j ≡ refusal 8
  unfolding window_ask_says
  in_above h g = rw (e, le-ltb i f h, lt-ltb l j g)

  pub in_inside : f ≤ i → j ≤ l → window_ask_says b f l i j ≡ answer p
  unfolding window_ask_says
  in_inside h g = rw (e, le-ltb i f h, le-ltb l j g)
