-- A closing found behind bytes that were only counted.
-- Assumes nothing.
use mathlib.Core.Path.{◌≡◌, refl, ap, sym, ◌∙◌}
use Prim.Native.Nat.{ℕ, ◌+◌, ◌-◌, ◌*◌, ◌≤◌, ◌<◌}
use native.Mathlib.Nat.{zero-add}
use native.Mathlib.Omega.{arith}
use mathlib.Core.List.{List, ◌++◌}
use lib.ListN.{length, take, drop, length-drop, take-append-drop}
use lib.Seq.{take_all, take-add}
use Rattle.rules.specs.Shape.{Paren}
use Rattle.rules.specs.Excess.{closings, closing_place}
use Rattle.rules.specs.Bytes.{all_bits}
use Rattle.rules.proofs.Excess.{closings-append, counts-length}
use Rattle.rules.proofs.Bytes.{all_bits-append}
use Rattle.rules.proofs.Parts.{closing_second}
use Rattle.scan.specs.declared.Scan.{Scan}
use Rattle.scan.specs.Scan.{scan_of, Ready}
use Rattle.scan.proofs.Laws.{scan-append, scan_far}
use Rattle.ask.specs.Part.{ground_level, outset, Stops, Skips}
use Rattle.ask.specs.declared.part.Stop.{Stop}
use Rattle.ask.specs.declared.part.Skipped.{Skipped}
use Rattle.ask.proofs.Seek.{bits-length, passed}

-- ---- eight bytes more

pub passed_none : (bs : List ℕ) → 0 ≡ passed bs 0
unfolding all_bits closings
passed_none bs = refl

pub passed-eight : (bs : List ℕ) (m : ℕ) → passed bs (m + 8) ≡ passed bs m + closings (all_bits (take 8 (drop m bs)))
passed-eight bs m = rw (take-add m 8 bs, all_bits-append) (closings-append (all_bits (take m bs)) (all_bits (take 8 (drop m bs))))

pub passed_few : (bs : List ℕ) (m : ℕ) → m ≤ length bs → passed bs m ≤ 8 * m
passed_few bs m h = omega (arith, counts-length (all_bits (take m bs)), bits-length bs m h)

-- ---- what is left

-- the state before it
abbrev pub resumed : Skipped → Scan
resumed r = record { excess = ground_level + 8 * r.bytes - 2 * r.closings; smallest = 0; place = 0 }

module _ {bs : List ℕ} {k : ℕ} {r : Skipped} (few : 8 * length bs ≤ ground_level) (among : k < closings (all_bits bs)) (w : Skips bs k r) where
  abbrev u : List Paren
  u = all_bits (take r.bytes bs)

  abbrev v : List Paren
  v = all_bits (drop r.bytes bs)

  apart : all_bits bs ≡ u ++ v
  apart = ap all_bits (sym (take-append-drop r.bytes bs)) ∙ all_bits-append (take r.bytes bs) (drop r.bytes bs)

  pub skipped_few : r.closings ≤ 8 * r.bytes
  skipped_few = rw w.counted (passed_few bs r.bytes w.within)

  abbrev left : List ℕ
  left = take (length bs - r.bytes) (drop r.bytes bs)

  all : left ≡ drop r.bytes bs
  all = take_all (length bs - r.bytes) (drop r.bytes bs) (omega (arith, length-drop r.bytes bs))

  left_long : length left ≡ length bs - r.bytes
  left_long = rw all (length-drop r.bytes bs)

  pub left_ready : Ready (resumed r) (8 * length left)
  left_ready =
      let l = left_long in
      let c = skipped_few in
      let i = w.within in
      record { room = omega arith; high = omega arith; bound = omega arith }

  pub left_near : 8 * r.bytes + 8 * length left ≤ 1048576
  left_near = omega (arith, left_long, w.within)

  pub left_among : k - r.closings < closings (all_bits left)
  left_among =
      let s : closings (all_bits bs) ≡ closings u + closings v = ap closings apart ∙ closings-append u v in
      rw all (omega (arith, w.ahead, w.counted))

  read : scan_of outset 0 u ≡ resumed r
  read =
      let n : length u ≡ 8 * r.bytes = bits-length bs r.bytes w.within in
      let i = w.within in
      rw (← n, w.counted) (scan_far ground_level 0 0 0 u (omega arith))

  pub left_found : {x : Stop} → Stops (resumed r) (8 * r.bytes) left (k - r.closings) x
      → Stops outset 0 bs k (record { scan = x.scan; byte = r.bytes + x.byte; bit = x.bit })
  left_found {x} g =
      let f : Stops (resumed r) (8 * r.bytes) (drop r.bytes bs) (k - r.closings) x = rw all at g in
      let n : length u ≡ 8 * r.bytes = bits-length bs r.bytes w.within in
      let y = all_bits (take x.byte (drop r.bytes bs)) in
      let place : closing_place (all_bits bs) k ≡ length u + closing_place v (k - closings u) =
      rw apart (closing_second u v k (rw (← w.counted) w.ahead)) in
      let more : all_bits (take (r.bytes + x.byte) bs) ≡ u ++ y =
      rw (take-add r.bytes x.byte bs) (all_bits-append (take r.bytes bs) (take x.byte (drop r.bytes bs))) in
      record {
        byte = omega (arith, f.byte, length-drop r.bytes bs, w.within);
        bit = f.bit;
        stands = rw (place, ← w.counted) (omega (arith, f.stands));
        scan = rw (more, scan-append outset 0 u y, read, n, zero-add (8 * r.bytes)) f.scan;
      }
