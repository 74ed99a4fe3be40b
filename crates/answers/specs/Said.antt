-- Document 01, "Refusal numbers" and "Forms by place": the paper's number for each refusal, and its values for each case of an answer.
use Rattle.std.specs.Prelude.{ℕ, Result, Ok, Err}
use Rattle.rules.specs.Refusal.{Outcome, answer, refusal}
use Rattle.answers.specs.declared.Refusal.{Refusal}
use Rattle.answers.specs.declared.Refusal.TheVariants.{TooManyEntries, OutputShort, WorkShort, Unmarked, CutShort, UnusedBit, Unbalanced, OutOfRange, Foreign, NoRecord, BytesAfter, DrawerLong, UsedWrong, DrawerFull}

abbrev pub number : Refusal → ℕ
number TooManyEntries = 1
number OutputShort = 2
number WorkShort = 3
number Unmarked = 4
number CutShort = 5
number UnusedBit = 6
number Unbalanced = 7
number OutOfRange = 8
number Foreign = 9
number NoRecord = 10
number BytesAfter = 11
number DrawerLong = 12
number UsedWrong = 13
number DrawerFull = 14

-- what an entry point answers
abbrev pub Answer : Type 0
Answer = Result ℕ Refusal

abbrev pub said : Answer → Outcome
said (Ok v) = answer v
said (Err r) = refusal (number r)
