-- The table's rule, by one test over its 768 numbers: what the code reads at each place is the rule's number, and no step on the way wraps.
-- Assumes nothing.
use mathlib.Core.Path.{◌≡◌}
use Prim.Native.Nat.{ℕ, ◌^◌, ◌≤◌, ◌<◌}
use mathlib.Core.Bool.{Bool, ◌&&◌}
use mir.Syntax.{w8, w64}
use mir.Val.{Fits, SFits, of_z, to_z}
use lib.IntN.{ℤ, pos, nat_abs, ◌+ℤ◌}
use lib.Signed.{mag, non_neg}
use lib.Dec.{T, leb, ltb, eqb, leb→le, ltb→lt, eqb→eq}
use lib.ListN.{get_or}
use Rattle.rules.proofs.Every.{every_at, and_left, and_right}
use Rattle.rules.specs.Column.{least, least_of}
use Rattle.rules.specs.Excess.{excess, excesses, openings, closings, list_of}
use Rattle.rules.specs.Bytes.{low_bits, paren}
use Rattle.scan.specs.Rows.{rows, cell, total, lowest, first_lowest}

-- a number of the table as the code reads it, then raised by 8
abbrev pub wide : ℤ → ℤ
wide z = to_z w8 (of_z w8 z)

abbrev pub sum : ℤ → ℤ
sum z = to_z w64 (of_z w64 (wide z)) +ℤ pos 8

abbrev pub raised : ℤ → ℤ
raised z = to_z w64 (of_z w64 (sum z))

right : ℕ → ℤ → Bool
right k z =
    eqb (nat_abs (raised z)) (cell k) && (ltb (mag (wide z)) (2 ^ 63) && (ltb (mag (sum z)) (2 ^ 63) && (non_neg (raised z) && (ltb (nat_abs (raised z)) (2 ^ 64) && leb (cell k) 16))))

tested : (k : ℕ) → k < 768 → T (right k (get_or rows k (pos 0)))
unfolding right rows cell total lowest first_lowest least least_of excess excesses openings closings list_of low_bits paren
tested k h = every_at right (pos 0) rows tt k h

pub record Cell (k : ℕ) (z : ℤ) : Type 0 where
  pub value : nat_abs (raised z) ≡ cell k
  pub read : SFits w64 (wide z)
  pub plus : SFits w64 (sum z)
  pub positive : T (non_neg (raised z))
  pub fits : Fits w64 (nat_abs (raised z))
  pub small : cell k ≤ 16

six : (a b c d e f : Bool) → T (a && (b && (c && (d && (e && f))))) → T a × T b × T c × T d × T e × T f
six a b c d e f t =
    let u = and_right a (b && (c && (d && (e && f)))) t in
    let v = and_right b (c && (d && (e && f))) u in
    let w = and_right c (d && (e && f)) v in
    let x = and_right d (e && f) w in
    (and_left a (b && (c && (d && (e && f)))) t, and_left b (c && (d && (e && f))) u, and_left c (d && (e && f)) v, and_left d (e && f) w, and_left e f x, and_right e f x)

pub cell_at : (k : ℕ) → k < 768 → Cell k (get_or rows k (pos 0))
unfolding right
cell_at k h =
    let z = get_or rows k (pos 0) in
    let t = six (eqb (nat_abs (raised z)) (cell k)) (ltb (mag (wide z)) (2 ^ 63)) (ltb (mag (sum z)) (2 ^ 63)) (non_neg (raised z)) (ltb (nat_abs (raised z)) (2 ^ 64)) (leb (cell k) 16) (tested k h) in
    record {
      value = eqb→eq (nat_abs (raised z)) (cell k) t.0;
      read = record { sfits = ltb→lt (mag (wide z)) (2 ^ 63) t.1 };
      plus = record { sfits = ltb→lt (mag (sum z)) (2 ^ 63) t.2 };
      positive = t.3;
      fits = record { fits = ltb→lt (nat_abs (raised z)) (2 ^ 64) t.4 };
      small = leb→le (cell k) 16 t.5;
    }
