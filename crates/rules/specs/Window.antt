-- Document 01, "Order of checks", last paragraph: a window keeps the record's bytes beside the first and last entry a pass may ask about.
use Rattle.std.specs.Prelude.{ℕ, cond, List, [], ltb}
use Rattle.rules.specs.Refusal.{Outcome, answer, refusal, unless_refused}
use Rattle.rules.specs.Order.{check_says, ask_says}

-- Making one (bytes r, first f, last l): record check, then 8, for f above l and for l of n or more. It says n.
unfoldable pub window_says : List ℕ → ℕ → ℕ → Outcome
window_says r f l =
    unless_refused (check_says r) (λ n. cond (ltb l f) (refusal 8) (cond (ltb l n) (answer n) (refusal 8)))

-- A refused window has no bytes and 0 for first and last: what is kept of bytes and of a number, by what was said
abbrev pub bytes_by : Outcome → List ℕ → List ℕ
bytes_by (answer n) r = r
bytes_by (refusal k) r = []

abbrev pub number_by : Outcome → ℕ → ℕ
number_by (answer n) x = x
number_by (refusal k) x = 0

unfoldable pub kept_bytes : List ℕ → ℕ → ℕ → List ℕ
kept_bytes r f l = bytes_by (window_says r f l) r

unfoldable pub kept_first : List ℕ → ℕ → ℕ → ℕ
kept_first r f l = number_by (window_says r f l) f

unfoldable pub kept_last : List ℕ → ℕ → ℕ → ℕ
kept_last r f l = number_by (window_says r f l) l

-- An ask in a window of bytes b, first f and last l answers as the plain ask, with 8 also for i below first or j above last. This is so of
-- any bytes and numbers, a window that somebody put together by hand among them.
unfoldable pub window_ask_says : List ℕ → ℕ → ℕ → ℕ → ℕ → Outcome
window_ask_says b f l i j =
    unless_refused (ask_says b i j) (λ p. cond (ltb i f) (refusal 8) (cond (ltb l j) (refusal 8) (answer p)))

-- An ask in the window that is made on r with first f and last l
unfoldable pub through_says : List ℕ → ℕ → ℕ → ℕ → ℕ → Outcome
through_says r f l i j = window_ask_says (kept_bytes r f l) (kept_first r f l) (kept_last r f l) i j
