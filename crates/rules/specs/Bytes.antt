-- Document 01, "Record and drawer bytes". A record: mark 52 4D (hex); n as two bytes, low byte first; then n/4 bytes, rounded up.
-- Parenthesis b is bit b mod 8 (lowest first) of byte b/8; 1 opens. Unused bits of the last byte are 0. n is at most 32,768.
use Rattle.std.specs.Prelude.{ℕ, zero, suc, ◌+◌, ◌*◌, ◌/◌, ◌%◌, ◌<◌, List, [], ◌∷◌, ◌++◌, length, take, drop, get_or}
use Rattle.rules.specs.Shape.{Paren, opening, closing, shape}

-- numbers that are bytes, as those of every lent slice of bytes are
pub record Bytes (r : List ℕ) : Type 0 where
  pub small : (k : ℕ) → get_or r k 0 < 256

-- the most entries a column may have
abbrev pub most : ℕ
most = 32768

-- n/4, rounded up
abbrev pub bytes_for : ℕ → ℕ
bytes_for n = (n + 3) / 4

-- the bytes of a record of n entries, with its head
abbrev pub record_length : ℕ → ℕ
record_length n = 4 + bytes_for n

unfoldable pub bit : Paren → ℕ
bit opening = 1
bit closing = 0

-- the number whose bits, lowest first, are these parentheses
unfoldable pub bits : List Paren → ℕ
bits [] = 0
bits (p ∷ s) = bit p + 2 * bits s

-- m bytes of eight parentheses each; past the end of s every bit is 0
unfoldable pub bytes_of : ℕ → List Paren → List ℕ
bytes_of zero s = []
bytes_of (suc m) s = bits (take 8 s) ∷ bytes_of m (drop 8 s)

-- the record of n entries whose parentheses are s
unfoldable pub record_of : ℕ → List Paren → List ℕ
record_of n s = 0x52 ∷ 0x4D ∷ n % 256 ∷ n / 256 ∷ bytes_of (bytes_for n) s

-- a column's record
unfoldable pub column_record : List ℕ → List ℕ
column_record c = record_of (length c) (shape c)

-- ---- the way back, from bytes to parentheses

unfoldable pub paren : ℕ → Paren
paren zero = closing
paren (suc b) = opening

-- the k lowest bits of a byte, lowest first
unfoldable pub low_bits : ℕ → ℕ → List Paren
low_bits zero b = []
low_bits (suc k) b = paren (b % 2) ∷ low_bits k (b / 2)

-- all bits of these bytes
unfoldable pub all_bits : List ℕ → List Paren
all_bits [] = []
all_bits (b ∷ bs) = low_bits 8 b ++ all_bits bs

-- n, as a record's head says it
unfoldable pub entries : List ℕ → ℕ
entries r = get_or r 2 0 + 256 * get_or r 3 0

-- the parentheses of a record of n entries, and the unused bits behind them
unfoldable pub parens : ℕ → List ℕ → List Paren
parens n r = take (2 * n) (all_bits (drop 4 r))

unfoldable pub unused : ℕ → List ℕ → List Paren
unused n r = drop (2 * n) (all_bits (drop 4 r))
