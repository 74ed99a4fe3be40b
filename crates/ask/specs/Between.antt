-- From one closing to another: what a scan has seen on the way, by the excesses alone, and what the scan may rely on.
use Rattle.std.specs.Prelude.{ℕ, ◌+◌, ◌-◌, ◌*◌, ◌≤◌, ◌<◌, List, length, get_or}
use Rattle.rules.specs.Shape.{Paren}
use Rattle.rules.specs.Column.{least_of}
use Rattle.rules.specs.Excess.{closings, closing_place, excesses}
use Rattle.rules.specs.Bytes.{all_bits}
use Rattle.scan.specs.declared.Scan.{Scan}
use Rattle.ask.specs.Part.{ground_level}

-- a scan that began with place a and has read k places more, c being the excesses
unfoldable pub seen_from : List ℕ → ℕ → ℕ → Scan
seen_from c a k =
    record { excess = get_or c (a + k) 0; smallest = get_or c (least_of c a k) 0; place = least_of c a k }

-- one that began with closing i and ended with closing j
unfoldable pub seen_between : List Paren → ℕ → ℕ → Scan
seen_between s i j = seen_from (excesses ground_level s) (closing_place s i) (closing_place s j - closing_place s i)

-- both closings are among the parentheses of these bytes
pub record Asked (bs : List ℕ) (i j : ℕ) : Type 0 where
  pub few : 8 * length bs ≤ ground_level
  pub order : i ≤ j
  pub among : j < closings (all_bits bs)
