-- The record check, where it gives back the record that it accepts.
use Rattle.std.specs.Prelude.{Result, Ok, Err}
use Rattle.rules.specs.Refusal.{Outcome, answer, refusal}
use Rattle.answers.specs.declared.Refusal.{Refusal}
use Rattle.answers.specs.Said.{number}
use Rattle.checks.specs.declared.record.Record.{Record}

abbrev pub said_record : Result Record Refusal → Outcome
said_record (Ok r) = answer r.entries
said_record (Err x) = refusal (number x)
