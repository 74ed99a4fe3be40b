-- The bytes of a line's buffer.
use Rattle.std.specs.Prelude.{ℕ}

abbrev pub line_room : ℕ
line_room = 65600
