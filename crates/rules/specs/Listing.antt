-- Document 01, "The listing": the text that the program writes for a drawer, as a list of lines, each the ASCII codes of its characters.
use Rattle.std.specs.Prelude.{ℕ, zero, suc, max, ◌+◌, ◌/◌, ◌%◌, cond, ltb, eqb, length, take, drop}
use mathlib.Core.List.{List, [], ◌∷◌, ◌++◌, map, flatten}
use Rattle.rules.specs.Shape.{Paren, opening, closing}
use Rattle.rules.specs.Excess.{excesses}
use Rattle.rules.specs.Bytes.{record_length, parens}
use Rattle.rules.specs.Refusal.{Outcome, answer, refusal}
use Rattle.rules.specs.Order.{frame_says, check_says}
use Rattle.rules.specs.Drawer.{most_bytes, most_records}

-- ---- characters and words

abbrev pub blank : List ℕ
blank = 32 ∷ []

abbrev pub newline : List ℕ
newline = 10 ∷ []

-- "-"
abbrev pub dash : List ℕ
dash = 45 ∷ []

-- "refused", "end"
abbrev pub refused_word : List ℕ
refused_word = 114 ∷ 101 ∷ 102 ∷ 117 ∷ 115 ∷ 101 ∷ 100 ∷ []

abbrev pub end_word : List ℕ
end_word = 101 ∷ 110 ∷ 100 ∷ []

-- "(" and ")"
unfoldable pub sign : Paren → ℕ
sign opening = 40
sign closing = 41

-- A number in decimal. A number has no more digits than its value and one, so counting down from the number itself is enough: `decimal-one`
-- and `decimal-more` (proofs/Listing) have no count.
abbrev pub digit : ℕ → List ℕ
digit x = (48 + x) ∷ []

unfoldable pub decimal_of : ℕ → ℕ → List ℕ
decimal_of zero x = digit x
decimal_of (suc f) x = cond (ltb x 10) (digit x) (decimal_of f (x / 10) ++ digit (x % 10))

unfoldable pub decimal : ℕ → List ℕ
decimal x = decimal_of x x

-- ---- lines

-- greatest excess (0 for none)
unfoldable pub greatest_of : List ℕ → ℕ
greatest_of [] = 0
greatest_of (x ∷ xs) = max x (greatest_of xs)

unfoldable pub greatest_excess : List Paren → ℕ
greatest_excess s = greatest_of (excesses 0 s)

-- the parentheses, or "-" for n = 0
unfoldable pub shown_shape : ℕ → List Paren → List ℕ
shown_shape n s = cond (eqb n 0) dash (map sign s)

-- Per record: number, n, greatest excess, the parentheses
unfoldable pub shape_line : ℕ → ℕ → List Paren → List ℕ
shape_line k n s =
    decimal k ++ blank ++ decimal n ++ blank ++ decimal (greatest_excess s) ++ blank ++ shown_shape n s ++ newline

-- its number, "refused" and the refusal
unfoldable pub refused_line : ℕ → ℕ → List ℕ
refused_line k x = decimal k ++ blank ++ refused_word ++ blank ++ decimal x ++ newline

-- "end" and the count of lines above
unfoldable pub end_line : ℕ → List ℕ
end_line c = end_word ++ blank ++ decimal c ++ newline

-- "refused 12" only
unfoldable pub long_line : List ℕ
long_line = refused_word ++ blank ++ decimal 12 ++ newline

-- the line of record number k, whose bytes are r, by what the record check says
abbrev pub checked_line : ℕ → List ℕ → Outcome → List ℕ
checked_line k r (answer n) = shape_line k n (parens n r)
checked_line k r (refusal x) = refused_line k x

unfoldable pub record_line : ℕ → List ℕ → List ℕ
record_line k r = checked_line k r (check_says r)

-- ---- the lines of a drawer

-- A record that is framed at the front of d gets its line, refused with 6 or 7 or not, and listing goes on behind it. Any other refusal, 5, 4
-- and 1, gets a line and stops it.
abbrev pub framed_lines : ℕ → List ℕ → Outcome → (ℕ → List (List ℕ)) → List (List ℕ)
framed_lines k d (answer n) next = record_line k (take (record_length n) d) ∷ next (record_length n)
framed_lines k d (refusal x) next = refused_line k x ∷ []

-- The lines of d from record number k on, where m more records may stand. If any byte follows the last of them the line is refusal 14,
-- before that byte is judged, and it stops.
unfoldable pub lines_from : ℕ → ℕ → List ℕ → List (List ℕ)
lines_from zero k d = cond (ltb 0 (length d)) (refused_line k 14 ∷ []) []
lines_from (suc m) k d =
    cond (ltb 0 (length d)) (framed_lines k d (frame_says d) (λ l. lines_from m (k + 1) (drop l d))) []

-- the same with the last line, where k lines stand above
unfoldable pub ended_lines : ℕ → List (List ℕ) → List (List ℕ)
ended_lines k ls = ls ++ (end_line (k + length ls) ∷ [])

-- All lines: input above 65,536 bytes prints "refused 12" only
unfoldable pub listing_lines : List ℕ → List (List ℕ)
listing_lines d = cond (ltb most_bytes (length d)) (long_line ∷ []) (ended_lines 0 (lines_from most_records 0 d))

-- The text
unfoldable pub listing : List ℕ → List ℕ
listing d = flatten (listing_lines d)
