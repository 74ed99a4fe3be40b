-- Document 01, "Record and drawer bytes": parenthesis b is bit b mod 8 (lowest first) of byte b/8.
use Rattle.std.specs.Prelude.{ℕ, ◌+◌, ◌/◌, ◌%◌, ◌^◌, List, get_or}

abbrev pub bit_at : List ℕ → ℕ → ℕ
bit_at r b = get_or r (4 + b / 8) 0 / 2 ^ (b % 8) % 2
