-- From the checks and the parts of a record to the contract of `build`.
-- Assumes nothing.
use mathlib.Core.Path.{◌≡◌, sym}
use Prim.Native.Nat.{ℕ, ◌-◌, ◌/◌, ◌%◌, ◌≤◌, ◌<◌}
use native.Mathlib.Omega.{arith}
use mathlib.Core.List.{List, [], ◌∷◌, ◌++◌}
use borrow.Author.Tests.{lt-ltb, le-ltb}
use lib.ListN.{length, take, drop, replicate}
use lib.Seq.{drop_at, length-take-le}
use borrow.Rule.Slice.PartMut.{put_mid, post_of, Post-is}
use Rattle.rules.specs.Bytes.{most, record_length, record_of, column_record}
use Rattle.rules.specs.Refusal.{answer, refusal}
use Rattle.rules.specs.Order.{build_says, output_after, work_after}
use Rattle.answers.specs.declared.Refusal.{Refusal}
use Rattle.answers.specs.declared.Refusal.TheVariants.{TooManyEntries, OutputShort, WorkShort}
use Rattle.std.specs.Prelude.{Ok, Err}
use Rattle.answers.specs.Said.{number}
use Rattle.build.specs.Builds.{Builds}
use Rattle.build.specs.Body.{Bodied}

refused : (c w o : List ℕ) (x : Refusal) → build_says c (length w) (length o) ≡ refusal (number x) → Builds c w o (Err x) w o
unfolding output_after work_after
refused c w o x e = record { says = sym e; output = rw e; work = rw e }

pub too_many : (c w o : List ℕ) → most < length c → Builds c w o (Err TooManyEntries) w o
unfolding build_says
too_many c w o many = refused c w o TooManyEntries (simp (lt-ltb most (length c) many))

pub output_short : (c w o : List ℕ) → length c ≤ most → length o < record_length (length c) → Builds c w o (Err OutputShort) w o
unfolding build_says
output_short c w o few short =
    refused c w o OutputShort (simp (le-ltb most (length c) few, lt-ltb (length o) (record_length (length c)) short))

pub work_short : (c w o : List ℕ) → length c ≤ most → record_length (length c) ≤ length o → length w < length c → Builds c w o (Err WorkShort) w o
unfolding build_says
work_short c w o few long short =
    refused c w o WorkShort (simp (le-ltb most (length c) few, le-ltb (length o) (record_length (length c)) long, lt-ltb (length w) (length c) short))

-- v is the part of the work that the pass over the column used, cleared; b and f are the output's body and its head, stored in this order
pub built : {c w o f b v : List ℕ} {m : ℕ} → length c ≤ most → m ≤ length o → length c ≤ length w → m ≡ record_length (length c)
    → Bodied c b → v ≡ replicate (length c) 0 → f ≡ 0x52 ∷ 0x4D ∷ length c % 256 ∷ length c / 256 ∷ []
    → Builds c w o (Ok m) (v ++ drop (length c) w) (f ++ drop 4 (put_mid 4 (m - 4) o b))
unfolding build_says output_after work_after record_of column_record
built {c} {w} {o} {f} {b} {v} {m} few long wide size bodied clear head =
    let says : build_says c (length w) (length o) ≡ answer (record_length (length c)) =
    simp (le-ltb most (length c) few, le-ltb (length o) (record_length (length c)) (omega arith), le-ltb (length w) (length c) wide) in
    let front : length (take 4 o) ≡ 4 = length-take-le 4 o (omega arith) in
    record {
      says = rw (size, says);
      output = rw (drop_at (take 4 o) (b ++ post_of 4 (m - 4) o) 4 front, Post-is 4 m o (omega arith), says, head, bodied.body, size);
      work = rw (says, clear);
    }
