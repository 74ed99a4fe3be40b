-- A walk along the parentheses, which writes a column as it goes. Every excess is stored at the next entry's place; what an opening stores,
-- the closing that follows it overwrites.
use Rattle.std.specs.Prelude.{◌≡◌, ℕ, suc, pred, ◌+◌, ◌≤◌, true, List, [], ◌∷◌, ◌++◌, length, set}
use Rattle.rules.specs.Shape.{Paren, opening, closing}
use Rattle.rules.specs.Excess.{closings, balanced_from}
use Rattle.rules.specs.Bytes.{most}
use Rattle.stand_in.specs.declared.Walk.{Walk}

-- the excess e is stored, and k closings are passed then
abbrev pub stored : Walk → ℕ → ℕ → Walk
stored w e k =
    record { column = record w.column { now = set w.column.now w.closed e }; excess = e; closed = k }

unfoldable pub after : Walk → Paren → Walk
after w opening = stored w (suc w.excess) w.closed
after w closing = stored w (pred w.excess) (suc w.closed)

unfoldable pub walked : Walk → List Paren → Walk
walked w [] = w
walked w (p ∷ s) = walked (after w p) s

-- the walk can go along s: with what follows it is balanced from the walk's excess on, and the column has a number for each closing
pub record Ready (w : Walk) (s : List Paren) : Type 0 where
  pub rest : List Paren
  pub balance : balanced_from w.excess (s ++ rest) ≡ true
  pub few : w.closed + closings (s ++ rest) ≤ most
  pub room : w.closed + closings (s ++ rest) ≤ length w.column.now
