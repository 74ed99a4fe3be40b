-- What a scan has found over a stretch of places, the excess after the parenthesis at place p being X p. A stretch goes from a up to before b.
use Rattle.std.specs.Prelude.{◌≡◌, ℕ, ◌≤◌, ◌<◌}
use Rattle.scan.specs.declared.Scan.{Scan}

-- the scan's place is the leftmost of the smallest, and its smallest the excess there
pub record Lowest (X : ℕ → ℕ) (a b : ℕ) (st : Scan) : Type 0 where
  pub from : a ≤ st.place
  pub upto : st.place < b
  pub here : st.smallest ≡ X st.place
  pub before : (p : ℕ) → a ≤ p → p < st.place → st.smallest < X p
  pub after : (p : ℕ) → a ≤ p → p < b → st.smallest ≤ X p

-- m was the smallest, at place q, before the stretch: it stands, or something in the stretch is lower
pub record Beats (X : ℕ → ℕ) (a b m q : ℕ) (st : Scan) : Type 0 where
  pub bound : st.smallest ≤ m
  pub stands : m ≤ st.smallest → (st.place ≡ q) × ((p : ℕ) → a ≤ p → p < b → m ≤ X p)
  pub lower : st.smallest < m → Lowest X a b st
