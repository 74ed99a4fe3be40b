-- Document 01, "The summary": a table of 256 rows of three: the byte's total (-8 to 8), its smallest running total (-8 to 1), and the first
-- bit (0 to 7) where that stands. Here the rule, and the 768 numbers.
use Rattle.std.specs.Prelude.{ℕ, ◌+◌, ◌/◌, ◌%◌, List, [], ◌∷◌, ℤ, pos, negsuc, get_or}
use Rattle.rules.specs.Column.{least}
use Rattle.rules.specs.Excess.{excess, excesses}
use Rattle.rules.specs.Bytes.{low_bits}

-- running totals are excesses; counted from 8 none is below 0
unfoldable pub total : ℕ → ℕ
total b = excess 8 (low_bits 8 b) 7

unfoldable pub first_lowest : ℕ → ℕ
first_lowest b = least (excesses 8 (low_bits 8 b)) 0 7

unfoldable pub lowest : ℕ → ℕ
lowest b = excess 8 (low_bits 8 b) (first_lowest b)

-- what stands at place k of the table, counted from -8: row k/3, and in it number k mod 3
unfoldable pub cell : ℕ → ℕ
cell k = get_or (total (k / 3) ∷ lowest (k / 3) ∷ (8 + first_lowest (k / 3)) ∷ []) (k % 3) 0

unfoldable pub rows : List ℤ
rows =
    negsuc 7 ∷ negsuc 7 ∷ pos 7 ∷ negsuc 5 ∷ negsuc 5 ∷ pos 7 ∷ negsuc 5 ∷ negsuc 5 ∷ pos 7 ∷ negsuc 3 ∷ negsuc 3 ∷ pos 7 ∷
    negsuc 5 ∷ negsuc 5 ∷ pos 7 ∷ negsuc 3 ∷ negsuc 3 ∷ pos 7 ∷ negsuc 3 ∷ negsuc 3 ∷ pos 7 ∷ negsuc 1 ∷ negsuc 1 ∷ pos 7 ∷
    negsuc 5 ∷ negsuc 5 ∷ pos 7 ∷ negsuc 3 ∷ negsuc 3 ∷ pos 7 ∷ negsuc 3 ∷ negsuc 3 ∷ pos 7 ∷ negsuc 1 ∷ negsuc 1 ∷ pos 7 ∷
    negsuc 3 ∷ negsuc 3 ∷ pos 7 ∷ negsuc 1 ∷ negsuc 1 ∷ pos 7 ∷ negsuc 1 ∷ negsuc 1 ∷ pos 7 ∷ pos 0 ∷ pos 0 ∷ pos 7 ∷
    negsuc 5 ∷ negsuc 5 ∷ pos 7 ∷ negsuc 3 ∷ negsuc 3 ∷ pos 7 ∷ negsuc 3 ∷ negsuc 3 ∷ pos 7 ∷ negsuc 1 ∷ negsuc 1 ∷ pos 7 ∷
    negsuc 3 ∷ negsuc 3 ∷ pos 7 ∷ negsuc 1 ∷ negsuc 1 ∷ pos 7 ∷ negsuc 1 ∷ negsuc 1 ∷ pos 7 ∷ pos 0 ∷ pos 0 ∷ pos 7 ∷
    negsuc 3 ∷ negsuc 3 ∷ pos 7 ∷ negsuc 1 ∷ negsuc 1 ∷ pos 7 ∷ negsuc 1 ∷ negsuc 1 ∷ pos 7 ∷ pos 0 ∷ pos 0 ∷ pos 7 ∷
    negsuc 1 ∷ negsuc 1 ∷ pos 1 ∷ pos 0 ∷ pos 0 ∷ pos 1 ∷ pos 0 ∷ negsuc 0 ∷ pos 0 ∷ pos 2 ∷ pos 1 ∷ pos 0 ∷
    negsuc 5 ∷ negsuc 5 ∷ pos 7 ∷ negsuc 3 ∷ negsuc 3 ∷ pos 7 ∷ negsuc 3 ∷ negsuc 3 ∷ pos 7 ∷ negsuc 1 ∷ negsuc 1 ∷ pos 7 ∷
    negsuc 3 ∷ negsuc 3 ∷ pos 7 ∷ negsuc 1 ∷ negsuc 1 ∷ pos 7 ∷ negsuc 1 ∷ negsuc 1 ∷ pos 7 ∷ pos 0 ∷ pos 0 ∷ pos 7 ∷
    negsuc 3 ∷ negsuc 3 ∷ pos 7 ∷ negsuc 1 ∷ negsuc 1 ∷ pos 7 ∷ negsuc 1 ∷ negsuc 1 ∷ pos 7 ∷ pos 0 ∷ pos 0 ∷ pos 7 ∷
    negsuc 1 ∷ negsuc 1 ∷ pos 1 ∷ pos 0 ∷ pos 0 ∷ pos 1 ∷ pos 0 ∷ negsuc 0 ∷ pos 0 ∷ pos 2 ∷ pos 1 ∷ pos 0 ∷
    negsuc 3 ∷ negsuc 3 ∷ pos 3 ∷ negsuc 1 ∷ negsuc 1 ∷ pos 3 ∷ negsuc 1 ∷ negsuc 1 ∷ pos 3 ∷ pos 0 ∷ pos 0 ∷ pos 3 ∷
    negsuc 1 ∷ negsuc 1 ∷ pos 1 ∷ pos 0 ∷ pos 0 ∷ pos 1 ∷ pos 0 ∷ negsuc 0 ∷ pos 0 ∷ pos 2 ∷ pos 1 ∷ pos 0 ∷
    negsuc 1 ∷ negsuc 2 ∷ pos 2 ∷ pos 0 ∷ negsuc 0 ∷ pos 2 ∷ pos 0 ∷ negsuc 0 ∷ pos 0 ∷ pos 2 ∷ pos 1 ∷ pos 0 ∷
    pos 0 ∷ negsuc 1 ∷ pos 1 ∷ pos 2 ∷ pos 0 ∷ pos 1 ∷ pos 2 ∷ negsuc 0 ∷ pos 0 ∷ pos 4 ∷ pos 1 ∷ pos 0 ∷
    negsuc 5 ∷ negsuc 5 ∷ pos 5 ∷ negsuc 3 ∷ negsuc 3 ∷ pos 5 ∷ negsuc 3 ∷ negsuc 3 ∷ pos 5 ∷ negsuc 1 ∷ negsuc 1 ∷ pos 5 ∷
    negsuc 3 ∷ negsuc 3 ∷ pos 5 ∷ negsuc 1 ∷ negsuc 1 ∷ pos 5 ∷ negsuc 1 ∷ negsuc 1 ∷ pos 5 ∷ pos 0 ∷ pos 0 ∷ pos 5 ∷
    negsuc 3 ∷ negsuc 3 ∷ pos 5 ∷ negsuc 1 ∷ negsuc 1 ∷ pos 5 ∷ negsuc 1 ∷ negsuc 1 ∷ pos 5 ∷ pos 0 ∷ pos 0 ∷ pos 5 ∷
    negsuc 1 ∷ negsuc 1 ∷ pos 1 ∷ pos 0 ∷ pos 0 ∷ pos 1 ∷ pos 0 ∷ negsuc 0 ∷ pos 0 ∷ pos 2 ∷ pos 1 ∷ pos 0 ∷
    negsuc 3 ∷ negsuc 3 ∷ pos 3 ∷ negsuc 1 ∷ negsuc 1 ∷ pos 3 ∷ negsuc 1 ∷ negsuc 1 ∷ pos 3 ∷ pos 0 ∷ pos 0 ∷ pos 3 ∷
    negsuc 1 ∷ negsuc 1 ∷ pos 1 ∷ pos 0 ∷ pos 0 ∷ pos 1 ∷ pos 0 ∷ negsuc 0 ∷ pos 0 ∷ pos 2 ∷ pos 1 ∷ pos 0 ∷
    negsuc 1 ∷ negsuc 2 ∷ pos 2 ∷ pos 0 ∷ negsuc 0 ∷ pos 2 ∷ pos 0 ∷ negsuc 0 ∷ pos 0 ∷ pos 2 ∷ pos 1 ∷ pos 0 ∷
    pos 0 ∷ negsuc 1 ∷ pos 1 ∷ pos 2 ∷ pos 0 ∷ pos 1 ∷ pos 2 ∷ negsuc 0 ∷ pos 0 ∷ pos 4 ∷ pos 1 ∷ pos 0 ∷
    negsuc 3 ∷ negsuc 4 ∷ pos 4 ∷ negsuc 1 ∷ negsuc 2 ∷ pos 4 ∷ negsuc 1 ∷ negsuc 2 ∷ pos 4 ∷ pos 0 ∷ negsuc 0 ∷ pos 4 ∷
    negsuc 1 ∷ negsuc 2 ∷ pos 4 ∷ pos 0 ∷ negsuc 0 ∷ pos 4 ∷ pos 0 ∷ negsuc 0 ∷ pos 0 ∷ pos 2 ∷ pos 1 ∷ pos 0 ∷
    negsuc 1 ∷ negsuc 2 ∷ pos 2 ∷ pos 0 ∷ negsuc 0 ∷ pos 2 ∷ pos 0 ∷ negsuc 0 ∷ pos 0 ∷ pos 2 ∷ pos 1 ∷ pos 0 ∷
    pos 0 ∷ negsuc 1 ∷ pos 1 ∷ pos 2 ∷ pos 0 ∷ pos 1 ∷ pos 2 ∷ negsuc 0 ∷ pos 0 ∷ pos 4 ∷ pos 1 ∷ pos 0 ∷
    negsuc 1 ∷ negsuc 3 ∷ pos 3 ∷ pos 0 ∷ negsuc 1 ∷ pos 3 ∷ pos 0 ∷ negsuc 1 ∷ pos 3 ∷ pos 2 ∷ pos 0 ∷ pos 3 ∷
    pos 0 ∷ negsuc 1 ∷ pos 1 ∷ pos 2 ∷ pos 0 ∷ pos 1 ∷ pos 2 ∷ negsuc 0 ∷ pos 0 ∷ pos 4 ∷ pos 1 ∷ pos 0 ∷
    pos 0 ∷ negsuc 2 ∷ pos 2 ∷ pos 2 ∷ negsuc 0 ∷ pos 2 ∷ pos 2 ∷ negsuc 0 ∷ pos 0 ∷ pos 4 ∷ pos 1 ∷ pos 0 ∷
    pos 2 ∷ negsuc 1 ∷ pos 1 ∷ pos 4 ∷ pos 0 ∷ pos 1 ∷ pos 4 ∷ negsuc 0 ∷ pos 0 ∷ pos 6 ∷ pos 1 ∷ pos 0 ∷
    negsuc 5 ∷ negsuc 6 ∷ pos 6 ∷ negsuc 3 ∷ negsuc 4 ∷ pos 6 ∷ negsuc 3 ∷ negsuc 4 ∷ pos 6 ∷ negsuc 1 ∷ negsuc 2 ∷ pos 6 ∷
    negsuc 3 ∷ negsuc 4 ∷ pos 6 ∷ negsuc 1 ∷ negsuc 2 ∷ pos 6 ∷ negsuc 1 ∷ negsuc 2 ∷ pos 6 ∷ pos 0 ∷ negsuc 0 ∷ pos 6 ∷
    negsuc 3 ∷ negsuc 4 ∷ pos 6 ∷ negsuc 1 ∷ negsuc 2 ∷ pos 6 ∷ negsuc 1 ∷ negsuc 2 ∷ pos 6 ∷ pos 0 ∷ negsuc 0 ∷ pos 6 ∷
    negsuc 1 ∷ negsuc 2 ∷ pos 6 ∷ pos 0 ∷ negsuc 0 ∷ pos 6 ∷ pos 0 ∷ negsuc 0 ∷ pos 0 ∷ pos 2 ∷ pos 1 ∷ pos 0 ∷
    negsuc 3 ∷ negsuc 4 ∷ pos 6 ∷ negsuc 1 ∷ negsuc 2 ∷ pos 6 ∷ negsuc 1 ∷ negsuc 2 ∷ pos 6 ∷ pos 0 ∷ negsuc 0 ∷ pos 6 ∷
    negsuc 1 ∷ negsuc 2 ∷ pos 6 ∷ pos 0 ∷ negsuc 0 ∷ pos 6 ∷ pos 0 ∷ negsuc 0 ∷ pos 0 ∷ pos 2 ∷ pos 1 ∷ pos 0 ∷
    negsuc 1 ∷ negsuc 2 ∷ pos 2 ∷ pos 0 ∷ negsuc 0 ∷ pos 2 ∷ pos 0 ∷ negsuc 0 ∷ pos 0 ∷ pos 2 ∷ pos 1 ∷ pos 0 ∷
    pos 0 ∷ negsuc 1 ∷ pos 1 ∷ pos 2 ∷ pos 0 ∷ pos 1 ∷ pos 2 ∷ negsuc 0 ∷ pos 0 ∷ pos 4 ∷ pos 1 ∷ pos 0 ∷
    negsuc 3 ∷ negsuc 4 ∷ pos 4 ∷ negsuc 1 ∷ negsuc 2 ∷ pos 4 ∷ negsuc 1 ∷ negsuc 2 ∷ pos 4 ∷ pos 0 ∷ negsuc 0 ∷ pos 4 ∷
    negsuc 1 ∷ negsuc 2 ∷ pos 4 ∷ pos 0 ∷ negsuc 0 ∷ pos 4 ∷ pos 0 ∷ negsuc 0 ∷ pos 0 ∷ pos 2 ∷ pos 1 ∷ pos 0 ∷
    negsuc 1 ∷ negsuc 2 ∷ pos 2 ∷ pos 0 ∷ negsuc 0 ∷ pos 2 ∷ pos 0 ∷ negsuc 0 ∷ pos 0 ∷ pos 2 ∷ pos 1 ∷ pos 0 ∷
    pos 0 ∷ negsuc 1 ∷ pos 1 ∷ pos 2 ∷ pos 0 ∷ pos 1 ∷ pos 2 ∷ negsuc 0 ∷ pos 0 ∷ pos 4 ∷ pos 1 ∷ pos 0 ∷
    negsuc 1 ∷ negsuc 3 ∷ pos 3 ∷ pos 0 ∷ negsuc 1 ∷ pos 3 ∷ pos 0 ∷ negsuc 1 ∷ pos 3 ∷ pos 2 ∷ pos 0 ∷ pos 3 ∷
    pos 0 ∷ negsuc 1 ∷ pos 1 ∷ pos 2 ∷ pos 0 ∷ pos 1 ∷ pos 2 ∷ negsuc 0 ∷ pos 0 ∷ pos 4 ∷ pos 1 ∷ pos 0 ∷
    pos 0 ∷ negsuc 2 ∷ pos 2 ∷ pos 2 ∷ negsuc 0 ∷ pos 2 ∷ pos 2 ∷ negsuc 0 ∷ pos 0 ∷ pos 4 ∷ pos 1 ∷ pos 0 ∷
    pos 2 ∷ negsuc 1 ∷ pos 1 ∷ pos 4 ∷ pos 0 ∷ pos 1 ∷ pos 4 ∷ negsuc 0 ∷ pos 0 ∷ pos 6 ∷ pos 1 ∷ pos 0 ∷
    negsuc 3 ∷ negsuc 5 ∷ pos 5 ∷ negsuc 1 ∷ negsuc 3 ∷ pos 5 ∷ negsuc 1 ∷ negsuc 3 ∷ pos 5 ∷ pos 0 ∷ negsuc 1 ∷ pos 5 ∷
    negsuc 1 ∷ negsuc 3 ∷ pos 5 ∷ pos 0 ∷ negsuc 1 ∷ pos 5 ∷ pos 0 ∷ negsuc 1 ∷ pos 5 ∷ pos 2 ∷ pos 0 ∷ pos 5 ∷
    negsuc 1 ∷ negsuc 3 ∷ pos 5 ∷ pos 0 ∷ negsuc 1 ∷ pos 5 ∷ pos 0 ∷ negsuc 1 ∷ pos 5 ∷ pos 2 ∷ pos 0 ∷ pos 5 ∷
    pos 0 ∷ negsuc 1 ∷ pos 1 ∷ pos 2 ∷ pos 0 ∷ pos 1 ∷ pos 2 ∷ negsuc 0 ∷ pos 0 ∷ pos 4 ∷ pos 1 ∷ pos 0 ∷
    negsuc 1 ∷ negsuc 3 ∷ pos 3 ∷ pos 0 ∷ negsuc 1 ∷ pos 3 ∷ pos 0 ∷ negsuc 1 ∷ pos 3 ∷ pos 2 ∷ pos 0 ∷ pos 3 ∷
    pos 0 ∷ negsuc 1 ∷ pos 1 ∷ pos 2 ∷ pos 0 ∷ pos 1 ∷ pos 2 ∷ negsuc 0 ∷ pos 0 ∷ pos 4 ∷ pos 1 ∷ pos 0 ∷
    pos 0 ∷ negsuc 2 ∷ pos 2 ∷ pos 2 ∷ negsuc 0 ∷ pos 2 ∷ pos 2 ∷ negsuc 0 ∷ pos 0 ∷ pos 4 ∷ pos 1 ∷ pos 0 ∷
    pos 2 ∷ negsuc 1 ∷ pos 1 ∷ pos 4 ∷ pos 0 ∷ pos 1 ∷ pos 4 ∷ negsuc 0 ∷ pos 0 ∷ pos 6 ∷ pos 1 ∷ pos 0 ∷
    negsuc 1 ∷ negsuc 4 ∷ pos 4 ∷ pos 0 ∷ negsuc 2 ∷ pos 4 ∷ pos 0 ∷ negsuc 2 ∷ pos 4 ∷ pos 2 ∷ negsuc 0 ∷ pos 4 ∷
    pos 0 ∷ negsuc 2 ∷ pos 4 ∷ pos 2 ∷ negsuc 0 ∷ pos 4 ∷ pos 2 ∷ negsuc 0 ∷ pos 0 ∷ pos 4 ∷ pos 1 ∷ pos 0 ∷
    pos 0 ∷ negsuc 2 ∷ pos 2 ∷ pos 2 ∷ negsuc 0 ∷ pos 2 ∷ pos 2 ∷ negsuc 0 ∷ pos 0 ∷ pos 4 ∷ pos 1 ∷ pos 0 ∷
    pos 2 ∷ negsuc 1 ∷ pos 1 ∷ pos 4 ∷ pos 0 ∷ pos 1 ∷ pos 4 ∷ negsuc 0 ∷ pos 0 ∷ pos 6 ∷ pos 1 ∷ pos 0 ∷
    pos 0 ∷ negsuc 3 ∷ pos 3 ∷ pos 2 ∷ negsuc 1 ∷ pos 3 ∷ pos 2 ∷ negsuc 1 ∷ pos 3 ∷ pos 4 ∷ pos 0 ∷ pos 3 ∷
    pos 2 ∷ negsuc 1 ∷ pos 1 ∷ pos 4 ∷ pos 0 ∷ pos 1 ∷ pos 4 ∷ negsuc 0 ∷ pos 0 ∷ pos 6 ∷ pos 1 ∷ pos 0 ∷
    pos 2 ∷ negsuc 2 ∷ pos 2 ∷ pos 4 ∷ negsuc 0 ∷ pos 2 ∷ pos 4 ∷ negsuc 0 ∷ pos 0 ∷ pos 6 ∷ pos 1 ∷ pos 0 ∷
    pos 4 ∷ negsuc 1 ∷ pos 1 ∷ pos 6 ∷ pos 0 ∷ pos 1 ∷ pos 6 ∷ negsuc 0 ∷ pos 0 ∷ pos 8 ∷ pos 1 ∷ pos 0 ∷
    []
