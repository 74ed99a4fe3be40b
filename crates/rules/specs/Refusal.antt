-- Document 01, "Refusal numbers". What an entry point says: a number that its rule names, or the number of a refusal from the document's table.
use Rattle.std.specs.Prelude.{ℕ, List}

pub data Outcome : Type 0 where
  answer refusal : ℕ → Outcome

-- the checks go on only where nothing has been refused yet
abbrev pub unless_refused : Outcome → (ℕ → Outcome) → Outcome
unless_refused (answer v) next = next v
unless_refused (refusal r) next = refusal r

-- a refusal changes nothing that was lent: what a buffer holds afterwards, by what was said
abbrev pub afterwards : Outcome → List ℕ → List ℕ → List ℕ
afterwards (answer v) now before = now
afterwards (refusal r) now before = before
