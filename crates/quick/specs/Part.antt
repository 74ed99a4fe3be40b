-- Parts of a record's body, for any bytes whatever: what a scan of a part finds is said by the excesses alone.
use Rattle.std.specs.Prelude.{◌≡◌, ◌⊎◌, ℕ, min, ◌+◌, ◌-◌, ◌*◌, ◌/◌, ◌%◌, ◌≤◌, ◌<◌, List, length, take, get_or}
use Rattle.rules.specs.Shape.{opening, closing}
use Rattle.rules.specs.Excess.{openings, closings, closing_place, excess}
use Rattle.rules.specs.Bytes.{low_bits, all_bits}
use Rattle.scan.specs.declared.Scan.{Scan}
use Rattle.scan.specs.Scan.{scan_of}
use Rattle.quick.specs.Lowest.{Lowest, Beats}

-- excesses are counted from here: above twice the number of any entry
abbrev pub ground_level : ℕ
ground_level = 131072

-- the excess after the parenthesis at place p, and the one before it
abbrev pub height : List ℕ → ℕ → ℕ
height body p = excess ground_level (all_bits body) p

abbrev pub level : List ℕ → ℕ → ℕ
level body p = ground_level + openings (take p (all_bits body)) - closings (take p (all_bits body))

-- where block k ends, as a byte's number
abbrev pub end_of : List ℕ → ℕ → ℕ
end_of body k = min (32 * k + 32) (length body)

-- block k begins in the body
pub record Block (body : List ℕ) (k : ℕ) : Type 0 where
  pub few : k ≤ 255
  pub starts : 32 * k ≤ length body

-- a closing stands at place x, in block k
pub record ClosingAt (body : List ℕ) (k x : ℕ) : Type 0 where
  pub from : 256 * k ≤ x
  pub upto : x < 256 * k + 256
  pub within : x < 8 * length body
  pub closes : get_or (all_bits body) x opening ≡ closing

-- an excess that a place can have, whatever a summary says
pub record Near (e : ℕ) : Type 0 where
  pub above : 4096 ≤ e
  pub below : e ≤ 262144

-- a scan begins with the closing at place x, after which the excess is e: in byte b, whose first bit stands at place at, with bit q
pub record Begun (body : List ℕ) (x e at b q e' : ℕ) : Type 0 where
  pub first : at ≡ 8 * (x / 8)
  pub byte : b ≡ get_or body (x / 8) 0
  pub bit : q ≡ x % 8
  pub excess : e' ≡ e

-- some of the bytes were read: all of them, or as many as it took to come as low as stop
pub record Runs (st : Scan) (at : ℕ) (part : List ℕ) (stop : ℕ) (r : Scan) : Type 0 where
  pub count : ℕ
  pub some : count ≤ length part
  pub read : r ≡ scan_of st at (all_bits (take count part))
  pub done : (count ≡ length part) ⊎ (r.smallest ≤ stop)

-- no excess of the stretch is below stop
abbrev pub Bounds : List ℕ → ℕ → ℕ → ℕ → Type 0
Bounds body a b stop = (p : ℕ) → a ≤ p → p < b → stop ≤ height body p

-- from the closing at place x on, after which the excess is e, up to before place b
pub record FromClosing (body : List ℕ) (x b e stop : ℕ) (r : Scan) : Type 0 where
  pub bound : r.smallest ≤ 1048576
  pub right : e ≡ height body x → Bounds body x b stop → Lowest (height body) x b r

-- from place a on, in state st, up to before place b
pub record GoesOn (body : List ℕ) (a b : ℕ) (st : Scan) (stop : ℕ) (r : Scan) : Type 0 where
  pub bound : r.smallest ≤ st.smallest
  pub right : st.excess ≡ level body a → Bounds body a b stop → Beats (height body) a b st.smallest st.place r

-- byte b, whose first bit stands at place at, in state here, up to closing number j of the body: up to closing i of the byte, by the excess before it
pub record EndsIn (here : Scan) (at b j : ℕ) (r : Scan) : Type 0 where
  pub bound : r.smallest ≤ here.smallest
  pub right : (i : ℕ) → 2 * j + here.excess ≡ 2 * i + (at + ground_level) → i < closings (low_bits 8 b)
      → r ≡ scan_of here at (take (closing_place (low_bits 8 b) i + 1) (low_bits 8 b))

-- from the start of block k on, in state st, up to closing number j of the body, where it stands in that block
pub record Reaches (body : List ℕ) (k j : ℕ) (st : Scan) (stop : ℕ) (r : Scan) : Type 0 where
  pub bound : r.smallest ≤ st.smallest
  pub right : j < closings (all_bits body) → closing_place (all_bits body) j / 256 ≡ k
      → GoesOn body (256 * k) (closing_place (all_bits body) j + 1) st stop r
