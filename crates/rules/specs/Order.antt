-- Document 01, "Order of checks": what each entry point says and leaves behind, for every input. A check that fails ends the row.
use Rattle.std.specs.Prelude.{ℕ, cond, List, ◌++◌, ltb, eqb, length, drop, get_or, replicate}
use Rattle.rules.specs.Excess.{openings, balanced, entry_between}
use Rattle.rules.specs.StandIn.{stand_in}
use Rattle.rules.specs.Bytes.{most, record_length, column_record, entries, parens, unused}
use Rattle.rules.specs.Refusal.{Outcome, answer, refusal, unless_refused, afterwards}

-- Frame: 5 for fewer than 4 bytes, 4, 1, 5 for the rest. It says n.
unfoldable pub frame_says : List ℕ → Outcome
frame_says r =
    cond (ltb (length r) 4) (refusal 5)
    (cond (eqb (get_or r 0 0) 0x52)
    (cond (eqb (get_or r 1 0) 0x4D)
    (cond (ltb most (entries r)) (refusal 1)
    (cond (ltb (length r) (record_length (entries r))) (refusal 5) (answer (entries r))))
    (refusal 4))
    (refusal 4))

-- Record check: frame, 11, 6, 7. It says n.
unfoldable pub check_says : List ℕ → Outcome
check_says r =
    unless_refused (frame_says r)
    (λ n. cond (ltb (record_length n) (length r)) (refusal 11)
    (cond (ltb 0 (openings (unused n r))) (refusal 6)
    (cond (balanced (parens n r)) (answer n) (refusal 7))))

-- Build (column c, w work numbers, o bytes of output): 1, 2, 3. It says the record's length.
unfoldable pub build_says : List ℕ → ℕ → ℕ → Outcome
build_says c w o =
    cond (ltb most (length c)) (refusal 1)
    (cond (ltb o (record_length (length c))) (refusal 2)
    (cond (ltb w (length c)) (refusal 3) (answer (record_length (length c)))))

-- It writes the record at the start of the output, nothing past it
unfoldable pub output_after : List ℕ → List ℕ → List ℕ → List ℕ
output_after c w o =
    afterwards (build_says c (length w) (length o)) (column_record c ++ drop (record_length (length c)) o) o

-- The first n work numbers are then 0, the rest unchanged
unfoldable pub work_after : List ℕ → List ℕ → List ℕ → List ℕ
work_after c w o =
    afterwards (build_says c (length w) (length o)) (replicate (length c) 0 ++ drop (length c) w) w

-- Plain ask: record check, 8. It says the entry.
unfoldable pub ask_says : List ℕ → ℕ → ℕ → Outcome
ask_says r i j =
    unless_refused (check_says r)
    (λ n. cond (ltb j i) (refusal 8) (cond (ltb j n) (answer (entry_between (parens n r) i j)) (refusal 8)))

-- Stand-in (record r, room for m numbers): record check, 2. It says n.
unfoldable pub stand_in_says : List ℕ → ℕ → Outcome
stand_in_says r m = unless_refused (check_says r) (λ n. cond (ltb m n) (refusal 2) (answer n))

-- It writes n numbers and no others
unfoldable pub column_after : List ℕ → List ℕ → List ℕ
column_after r col =
    afterwards (stand_in_says r (length col)) (stand_in (parens (entries r) r) ++ drop (entries r) col) col
