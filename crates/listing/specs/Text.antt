-- The text at the start of a lent line, and what is written behind it: no byte behind the text changes.
use Rattle.std.specs.Prelude.{◌≡◌, ℕ, ◌+◌, List, ◌++◌, length, take, drop}
use Rattle.listing.specs.declared.line.Text.{Text}

abbrev pub text_of : Text → List ℕ
text_of x = take x.used x.line.now

-- the bytes t behind the text of x
pub record Writes (t : List ℕ) (x y : Text) : Type 0 where
  pub size : y.used ≡ x.used + length t
  pub text : text_of y ≡ text_of x ++ t
  pub behind : drop y.used y.line.now ≡ drop y.used x.line.now

-- the bytes t in place of the text of x
pub record Anew (t : List ℕ) (x y : Text) : Type 0 where
  pub size : y.used ≡ length t
  pub text : text_of y ≡ t
  pub behind : drop y.used y.line.now ≡ drop y.used x.line.now
