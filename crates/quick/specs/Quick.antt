-- What is right of a body and the numbers beside it where these are the record's own, and the checks that are behind the frame.
use Rattle.std.specs.Prelude.{◌≡◌, ◌⊎◌, ℕ, ◌*◌, cond, List, ltb, length, take, drop}
use Rattle.rules.specs.Shape.{Paren}
use Rattle.rules.specs.Excess.{closing_place, entry_between}
use Rattle.rules.specs.Bytes.{bytes_for, record_length, all_bits}
use Rattle.rules.specs.Refusal.{Outcome, answer, refusal}
use Rattle.rules.specs.Summary.{Allowed, IsStrange, slots}
use Rattle.blocks.specs.Search.{Own}

-- the parentheses of n entries among the bits of a body
abbrev pub parens_in : List ℕ → ℕ → List Paren
parens_in body n = take (2 * n) (all_bits body)

-- a body and a summary that belong together
pub record Ours (body t : List ℕ) (n : ℕ) : Type 0 where
  pub own : Own t (parens_in body n) n
  pub whole : length body ≡ bytes_for n

-- the place of closing i, and the block in which it stands
abbrev pub closing_in : List ℕ → ℕ → ℕ → ℕ
closing_in body n i = closing_place (parens_in body n) i

-- 11, 3 and 8 of a framed record of n entries
unfoldable pub framed_checks : List ℕ → ℕ → ℕ → ℕ → ℕ → Outcome
framed_checks r m n i j =
    cond (ltb (record_length n) (length r)) (refusal 11)
    (cond (ltb m slots) (refusal 3) (cond (ltb j i) (refusal 8) (cond (ltb j n) (answer n) (refusal 8))))

-- behind the frame
pub record Framed (r t : List ℕ) (n i j : ℕ) (o : Outcome) : Type 0 where
  pub refused : (k : ℕ) → framed_checks r (length t) n i j ≡ refusal k → o ≡ refusal k
  pub allowed : (m : ℕ) → framed_checks r (length t) n i j ≡ answer m → Allowed i j o
  pub named : (m : ℕ) → framed_checks r (length t) n i j ≡ answer m → IsStrange t n i ⊎ IsStrange t n j → o ≡ refusal 9
  pub right : (m : ℕ) → framed_checks r (length t) n i j ≡ answer m → Ours (drop 4 r) t n → o ≡ answer (entry_between (parens_in (drop 4 r) n) i j)
