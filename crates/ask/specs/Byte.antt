-- One byte of parentheses, in which a scan may begin.
use Rattle.std.specs.Prelude.{◌≡◌, ℕ, ◌+◌, ◌-◌, ◌≤◌, get_or}
use Rattle.rules.specs.Shape.{opening, closing}
use Rattle.rules.specs.Bytes.{low_bits}
use Rattle.scan.specs.declared.Scan.{Scan}

-- a scan that has read its first parenthesis, at place p, after which the excess is e
abbrev pub begun : ℕ → ℕ → Scan
begun e p = record { excess = e; smallest = e; place = p }

-- one whose last u parentheses, openings, are taken back
abbrev pub shorter : Scan → ℕ → Scan
shorter st u = record { excess = st.excess - u; smallest = st.smallest; place = st.place }

-- a scan can begin with bit x of byte b, whose first bit stands at place at: the bit closes, and e is counted from far enough above 0
pub record Begins (at b x e : ℕ) : Type 0 where
  pub closes : get_or (low_bits 8 b) x opening ≡ closing
  pub room : 7 ≤ e + x
  pub high : e + 16 ≤ 1048576
  pub near : at ≤ 1048576
