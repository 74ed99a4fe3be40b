-- The document's numbers are small beside the bits of a refusal.
-- Assumes nothing.
use Prim.Native.Nat.{◌≤◌}
use native.Mathlib.Omega.{arith}
use Rattle.answers.specs.declared.Refusal.{Refusal}
use Rattle.answers.specs.declared.Refusal.TheVariants.{TooManyEntries, OutputShort, WorkShort, Unmarked, CutShort, UnusedBit, Unbalanced, OutOfRange, Foreign, NoRecord, BytesAfter, DrawerLong, UsedWrong, DrawerFull}
use Rattle.answers.specs.Said.{number}

pub number_few : (x : Refusal) → number x ≤ 14
number_few TooManyEntries = omega arith
number_few OutputShort = omega arith
number_few WorkShort = omega arith
number_few Unmarked = omega arith
number_few CutShort = omega arith
number_few UnusedBit = omega arith
number_few Unbalanced = omega arith
number_few OutOfRange = omega arith
number_few Foreign = omega arith
number_few NoRecord = omega arith
number_few BytesAfter = omega arith
number_few DrawerLong = omega arith
number_few UsedWrong = omega arith
number_few DrawerFull = omega arith
