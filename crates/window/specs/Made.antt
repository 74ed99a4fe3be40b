-- The rule of windows, read at the struct: what a window that is made keeps, and what an ask in a window says.
use Rattle.std.specs.Prelude.{◌≡◌, ℕ, List}
use Rattle.rules.specs.Refusal.{Outcome}
use Rattle.rules.specs.Window.{kept_bytes, kept_first, kept_last, window_ask_says}
use Rattle.window.specs.declared.Window.{Window}

-- w is the window that is made on the bytes r with first f and last l
pub record Made (r : List ℕ) (f l : ℕ) (w : Window) : Type 0 where
  pub bytes : w.bytes.now ≡ kept_bytes r f l
  pub first : w.first ≡ kept_first r f l
  pub last : w.last ≡ kept_last r f l

-- an ask in w, whoever put w together
abbrev pub in_window : Window → ℕ → ℕ → Outcome
in_window w i j = window_ask_says w.bytes.now w.first w.last i j
