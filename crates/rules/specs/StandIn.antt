-- Document 01, "The shape of a column": the stand-in column of a balanced sequence has at entry k the excess just after closing k.
use Rattle.std.specs.Prelude.{ℕ, List}
use Rattle.rules.specs.Shape.{Paren}
use Rattle.rules.specs.Excess.{closings, closing_place, excess, list_of}

unfoldable pub stand_in : List Paren → List ℕ
stand_in s = list_of (closings s) (λ k. excess 0 s (closing_place s k))
