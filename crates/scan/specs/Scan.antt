-- Document 01, "Forms by place": a scan state by value (excess, smallest, place), handed back after each byte. What it holds is said one
-- parenthesis at a time; that a table is behind it shows nowhere.
use Rattle.std.specs.Prelude.{ℕ, suc, pred, ◌+◌, ◌≤◌, cond, List, [], ◌∷◌, ltb}
use Rattle.rules.specs.Shape.{Paren, opening, closing}
use Rattle.scan.specs.declared.Scan.{Scan}

-- an excess of e after the parenthesis at place p: it is the smallest now only where it is strictly smaller
abbrev pub seen : Scan → ℕ → ℕ → Scan
seen st p e =
    record {
      excess = e;
      smallest = cond (ltb e st.smallest) e st.smallest;
      place = cond (ltb e st.smallest) p st.place;
    }

unfoldable pub step_of : Scan → ℕ → Paren → Scan
step_of st p opening = seen st p (suc st.excess)
step_of st p closing = seen st p (pred st.excess)

-- the state after the parentheses s, the first of which stands at place p
unfoldable pub scan_of : Scan → ℕ → List Paren → Scan
scan_of st p [] = st
scan_of st p (q ∷ s) = scan_of (step_of st p q) (suc p) s

-- a state from which k more parentheses can be read: the excess is counted from far enough above 0 (callers count from 65,536)
pub record Ready (st : Scan) (k : ℕ) : Type 0 where
  pub room : k ≤ st.excess
  pub high : st.excess + k ≤ 1048576
  pub bound : st.smallest ≤ 1048576
