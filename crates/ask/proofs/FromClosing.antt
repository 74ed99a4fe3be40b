-- The byte in which closing i stands, and what is read from there to closing j: in the same byte, or in bytes behind it.
-- Of any bytes, balanced or not. Assumes nothing.
use mathlib.Core.Path.{◌≡◌, ap, sym, ◌∙◌}
use Prim.Native.Nat.{ℕ, suc, ◌+◌, ◌-◌, ◌*◌, ◌/◌, ◌≤◌, ◌<◌}
use native.Mathlib.Numerals.{add-one}
use native.Mathlib.Omega.{arith}
use mathlib.Core.List.{List, ◌++◌, append_assoc}
use lib.ListN.{length, take, drop, get_or, length-drop, take-append-drop, get_or-append}
use lib.Seq.{take_all, take-append-add, take-append-le, drop-append-add, drop-append-le, length-take-le, get_or-append-add}
use Rattle.rules.specs.Shape.{Paren, opening, closing}
use Rattle.rules.specs.Excess.{closings, closing_place, excess}
use Rattle.rules.specs.Bytes.{low_bits, all_bits}
use Rattle.rules.proofs.Excess.{closings-append, counts-length}
use Rattle.rules.proofs.ClosingPlace.{closing-within, closing_stands, closing-order}
use Rattle.rules.proofs.Bytes.{low_bits-length, all_bits-length}
use Rattle.rules.proofs.Parts.{closing_first, closing_second, closing-closes, all_bits-cut}
use Rattle.rules.proofs.Counted.{excess-counts}
use Rattle.scan.specs.declared.Scan.{Scan}
use Rattle.scan.specs.Scan.{scan_of, Ready}
use Rattle.scan.proofs.Laws.{scan-append, ready_after, ready_same}
use Rattle.ask.specs.Byte.{begun, Begins}
use Rattle.ask.specs.Part.{ground_level, outset, Stops}
use Rattle.ask.specs.Between.{seen_between, Asked}
use Rattle.ask.specs.declared.part.Stop.{Stop}
use Rattle.ask.proofs.Seek.{scan-counts, bits-more, bits-length, passed}
use Rattle.ask.proofs.Seen.{scan_seen}

-- the excess after closing i, as the code works it out from where it stands
abbrev pub excess_at : ℕ → Stop → ℕ
excess_at i r = ground_level + 8 * r.byte + r.bit - 2 * i - 1

-- the scan that begins there and goes on with l
abbrev pub onward : ℕ → Stop → List Paren → Scan
onward i r l = scan_of (begun (excess_at i r) (8 * r.byte + r.bit)) (8 * r.byte + r.bit + 1) l

module _ {bs : List ℕ} {i j : ℕ} {r : Stop} (q : Asked bs i j) (w : Stops outset 0 bs i r) where
  abbrev s : List Paren
  s = all_bits bs

  -- the bits before closing i's byte, its own, and those behind it
  abbrev u : List Paren
  u = all_bits (take r.byte bs)

  abbrev v : List Paren
  v = low_bits 8 (get_or bs r.byte 0)

  abbrev z : List Paren
  z = all_bits (drop (r.byte + 1) bs)

  cut : s ≡ u ++ (v ++ z)
  cut = rw add-one (all_bits-cut bs r.byte w.byte)

  short : length s ≤ ground_level
  short = omega (arith, all_bits-length bs, q.few)

  before : length u ≡ 8 * r.byte
  before = bits-length bs r.byte (omega (arith, w.byte))

  eight : length v ≡ 8
  eight = low_bits-length 8 (get_or bs r.byte 0)

  low : r.bit < length v
  low = omega (arith, eight, w.bit)

  front : (m : ℕ) → m ≤ length v → take (8 * r.byte + m) s ≡ u ++ take m v
  front m h = rw (← before, cut, take-append-add u (v ++ z) m, take-append-le m v z h)

  among : i < closings s
  among = omega (arith, q.order, q.among)

  closings_before : passed bs r.byte + closings (take r.bit v) ≡ i
  closings_before =
      sym (closings-append u (take r.bit v)) ∙ rw (← (front r.bit (omega (arith, low))), w.stands) (closing_stands s i among).before

  closings-upto : passed bs r.byte + closings (take (r.bit + 1) v) ≡ suc i
  closings-upto =
      let p : 8 * r.byte + (r.bit + 1) ≡ suc (closing_place s i) = omega (arith, w.stands) in
      sym (closings-append u (take (r.bit + 1) v)) ∙ rw (← (front (r.bit + 1) (omega (arith, low))), p) (closing_stands s i among).upto

  closings-byte : closings (take (r.bit + 1) v) + closings (drop (r.bit + 1) v) ≡ closings v
  closings-byte =
      sym (closings-append (take (r.bit + 1) v) (drop (r.bit + 1) v)) ∙ ap closings (take-append-drop (r.bit + 1) v)

  closings_next : passed bs (r.byte + 1) ≡ passed bs r.byte + closings v
  closings_next = rw (bits-more bs r.byte w.byte) (closings-append u v)

  -- there are no more closings than parentheses
  pub number_low : i ≤ 8 * r.byte + r.bit
  number_low =
      omega (arith, closings_before, counts-length u, before, counts-length (take r.bit v), length-take-le r.bit v (omega (arith, low)))

  pub byte_low : 8 * r.byte + 8 ≤ ground_level
  byte_low = omega (arith, w.byte, q.few)

  excess_at_lem : excess ground_level s (closing_place s i) ≡ excess_at i r
  excess_at_lem =
      omega (arith, excess-counts ground_level s (closing_place s i) short (closing-within s i among), (closing_stands s i among).upto, w.stands)

  closes : get_or v r.bit opening ≡ closing
  closes =
      let e : get_or s (8 * r.byte + r.bit) opening ≡ closing = rw w.stands (closing-closes s i among) in
      sym (get_or-append v z opening r.bit low) ∙ (rw (cut, ← before, get_or-append-add u (v ++ z) r.bit opening) at e)

  pub begins : Begins (8 * r.byte) (get_or bs r.byte 0) r.bit (excess_at i r)
  begins =
      record {
        closes = closes;
        room = omega (arith, number_low, byte_low);
        high = omega (arith, byte_low, w.bit);
        near = omega (arith, byte_low);
      }

  -- ---- how many closings there are before that byte

  level : r.scan.excess + 2 * passed bs r.byte ≡ ground_level + 8 * r.byte
  level = rw w.scan (scan-counts outset 0 u (omega (arith, before, byte_low)) ∙ ap (ground_level +◌) before)

  pub before_fits : r.scan.excess ≤ ground_level + 8 * r.byte
  before_fits = omega (arith, level)

  -- ---- what is read from there to closing j

  order : closing_place s i ≤ closing_place s j
  order = closing-order s i j q.order q.among

  seen : (l : List Paren) → drop (8 * r.byte + r.bit + 1) (take (suc (closing_place s j)) s) ≡ l → onward i r l ≡ seen_between s i j
  unfolding seen_between
  seen l d =
      rw (← d, ← excess_at_lem, w.stands, add-one (closing_place s i))
      (scan_seen ground_level s short (closing_place s i) (closing_place s j) order (closing-within s j q.among))

  from : 8 * r.byte + r.bit + 1 ≡ length u + (r.bit + 1)
  from = omega (arith, before)

  -- ---- behind that byte, in the state here

  rest : length (drop (r.bit + 1) v) ≡ 7 - r.bit
  rest = omega (arith, length-drop (r.bit + 1) v, eight, w.bit)

  joined : s ≡ all_bits (take (r.byte + 1) bs) ++ z
  joined =
      cut ∙ sym (append_assoc u v z) ∙ ap (λ (l : List Paren). l ++ z) (sym (bits-more bs r.byte w.byte))

  module _ {here : Scan} (f : here ≡ onward i r (drop (r.bit + 1) v)) where
    level_next : here.excess + 2 * passed bs (r.byte + 1) ≡ 8 * (r.byte + 1) + ground_level
    level_next =
        let c = scan-counts (begun (excess_at i r) (8 * r.byte + r.bit)) (8 * r.byte + r.bit + 1) (drop (r.bit + 1) v) (omega (arith, rest, begins)) in
        rw f (omega (arith, rest, closings-upto, closings-byte, closings_next, number_low, byte_low, w.bit))

    pub next_fits : here.excess ≤ ground_level + 8 * (r.byte + 1)
    next_fits = omega (arith, level_next)

    -- n closings are before it
    module _ {n : ℕ} (counted : n ≡ (ground_level + 8 * (r.byte + 1) - here.excess) / 2) where
      next : n ≡ passed bs (r.byte + 1)
      next = omega (arith, level_next)

      -- closing j is in closing i's byte, before which there are m closings
      module _ (h : j < n) {m : ℕ} (e : m ≡ (ground_level + 8 * r.byte - r.scan.excess) / 2) where
        earlier : m ≡ passed bs r.byte
        earlier = omega (arith, level)

        pub same_after : m ≤ j
        same_after = omega (arith, earlier, closings_before, q.order)

        pub same-among : j - m < closings v
        same-among = omega (arith, same_after, earlier, next, closings_next)

        -- at bit y
        module _ {y : ℕ} (p : y ≡ closing_place v (j - m)) where
          pub same_low : y < 8
          same_low = omega (arith, eight, closing-within v (j - m) same-among)

          place : closing_place s j ≡ 8 * r.byte + y
          place =
              rw (cut, closing_second u (v ++ z) j (rw earlier at same_after), closing_first v z (j - passed bs r.byte) (rw earlier at same-among), ← earlier, ← p, before)

          pub same-order : r.bit < y + 1
          same-order = omega (arith, order, place, w.stands)

          pub same_seen : onward i r (drop (r.bit + 1) (take (y + 1) v)) ≡ seen_between s i j
          same_seen =
              let l : suc (closing_place s j) ≡ 8 * r.byte + (y + 1) = omega (arith, place) in
              seen (drop (r.bit + 1) (take (y + 1) v))
              (rw (l, front (y + 1) (omega (arith, same_low, eight)), from) (drop-append-add u (take (y + 1) v) (r.bit + 1)))

      -- closing j is behind that byte
      module _ (h : n ≤ j) where
        abbrev behind : List ℕ
        behind = take (length bs - (r.byte + 1)) (drop (r.byte + 1) bs)

        part : behind ≡ drop (r.byte + 1) bs
        part = take_all (length bs - (r.byte + 1)) (drop (r.byte + 1) bs) (omega (arith, length-drop (r.byte + 1) bs))

        long : length behind ≡ length bs - (r.byte + 1)
        long = rw part (length-drop (r.byte + 1) bs)

        pub apart-ready : Ready here (8 * length behind)
        apart-ready =
            let l = long in
            ready_same (8 * length behind) f
            (ready_after (begun (excess_at i r) (8 * r.byte + r.bit)) (8 * r.byte + r.bit + 1) (8 * length behind) (drop (r.bit + 1) v)
            (record {
              room = omega (arith, rest, number_low, q.few, w.byte, w.bit);
              high = omega (arith, rest, byte_low, q.few, w.byte, w.bit);
              bound = omega (arith, byte_low, w.bit);
            }))

        pub apart-near : 8 * (r.byte + 1) + 8 * length behind ≤ 1048576
        apart-near = omega (arith, long, q.few, w.byte)

        pub apart-among : j - n < closings (all_bits behind)
        apart-among =
            let c : closings s ≡ passed bs (r.byte + 1) + closings z = ap closings joined ∙ closings-append (all_bits (take (r.byte + 1) bs)) z in
            rw part (omega (arith, next, q.among))

        pub apart-seen : scan_of here (8 * (r.byte + 1)) (take (closing_place (all_bits behind) (j - n) + 1) (all_bits behind)) ≡ seen_between s i j
        apart-seen =
            let k = closing_place z (j - n) in
            let end : closing_place s j ≡ 8 * (r.byte + 1) + k =
            rw (joined, closing_second (all_bits (take (r.byte + 1) bs)) z j (rw next at h), ← next, bits-length bs (r.byte + 1) (omega (arith, w.byte))) in
            let m : suc (closing_place s j) ≡ length u + (length v + (k + 1)) = omega (arith, before, eight) in
            let p : 8 * r.byte + r.bit + 1 + length (drop (r.bit + 1) v) ≡ 8 * (r.byte + 1) = omega (arith, rest, w.bit) in
            let d : drop (8 * r.byte + r.bit + 1) (take (suc (closing_place s j)) s) ≡ drop (r.bit + 1) v ++ take (k + 1) z =
            rw (m, cut, take-append-add u (v ++ z) (length v + (k + 1)), take-append-add v z (k + 1), from, drop-append-add u (v ++ take (k + 1) z) (r.bit + 1))
            (drop-append-le (r.bit + 1) v (take (k + 1) z) (omega (arith, low))) in
            rw (part, f, ← p, ← (scan-append (begun (excess_at i r) (8 * r.byte + r.bit)) (8 * r.byte + r.bit + 1) (drop (r.bit + 1) v) (take (k + 1) z)))
            (seen (drop (r.bit + 1) v ++ take (k + 1) z) d)
