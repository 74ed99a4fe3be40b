-- Where a closing stands among some bytes, and the state before its byte.
use Rattle.std.specs.Prelude.{◌≡◌, ℕ, ◌+◌, ◌*◌, ◌≤◌, ◌<◌, List, length, take}
use Rattle.rules.specs.Excess.{closings, closing_place}
use Rattle.rules.specs.Bytes.{all_bits}
use Rattle.scan.specs.declared.Scan.{Scan}
use Rattle.scan.specs.Scan.{scan_of}
use Rattle.ask.specs.declared.part.Stop.{Stop}
use Rattle.ask.specs.declared.part.Skipped.{Skipped}

-- excesses are counted from here: a record has at most 65,536 parentheses, so none is below 0
abbrev pub ground_level : ℕ
ground_level = 65536

-- nothing has been read, and no excess will be the smallest
abbrev pub outset : Scan
outset = record { excess = ground_level; smallest = 0; place = 0 }

-- r tells of closing number k of the bytes bs, which a scan in state st reads from place at on: its byte, its bit there, and the state before that byte
pub record Stops (st : Scan) (at : ℕ) (bs : List ℕ) (k : ℕ) (r : Stop) : Type 0 where
  pub byte : r.byte < length bs
  pub bit : r.bit < 8
  pub stands : 8 * r.byte + r.bit ≡ closing_place (all_bits bs) k
  pub scan : r.scan ≡ scan_of st at (all_bits (take r.byte bs))

-- r tells of some bytes that are all before closing number k's: how many, and the closings among them
pub record Skips (bs : List ℕ) (k : ℕ) (r : Skipped) : Type 0 where
  pub within : r.bytes ≤ length bs
  pub counted : r.closings ≡ closings (all_bits (take r.bytes bs))
  pub ahead : r.closings ≤ k
