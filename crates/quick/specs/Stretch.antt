-- The steps of the quick ask: what each says for any bytes and numbers, and what is right where the summary is the record's own.
use Rattle.std.specs.Prelude.{◌≡◌, ◌⊎◌, ℕ, ◌+◌, ◌*◌, ◌/◌, ◌≤◌, ◌<◌, List, Result, IfOk, IfErr, IsOkAnd}
use Rattle.rules.specs.Excess.{entry_between}
use Rattle.rules.specs.Refusal.{Outcome, answer, refusal}
use Rattle.rules.specs.Summary.{Allowed, IsStrange}
use Rattle.answers.specs.declared.Refusal.{Refusal}
use Rattle.answers.specs.Said.{Answer, number}
use Rattle.tree.specs.declared.Best.{Best}
use Rattle.scan.specs.declared.Scan.{Scan}
use Rattle.quick.specs.declared.Lent.{Lent}
use Rattle.quick.specs.declared.Stretch.{Stretch}
use Rattle.quick.specs.declared.part.Closing.{Closing}
use Rattle.quick.specs.Lowest.{Beats}
use Rattle.quick.specs.Part.{ground_level, height, ClosingAt}
use Rattle.quick.specs.Quick.{parens_in, Ours, closing_in}

-- the bytes of the body, and the numbers beside it
abbrev pub body : Lent → List ℕ
body lent = lent.body.bytes.now

abbrev pub numbers : Lent → List ℕ
numbers lent = lent.summary.numbers.now

-- closing number i, looked for in block k: a closing of that block, or 9; the right one where it stands there
pub record Stands (lent : Lent) (k i : ℕ) (r : Answer) : Type 0 where
  pub there : IfOk r (λ x. ClosingAt (body lent) k x)
  pub nine : IfErr r (λ e. number e ≡ 9)
  pub right : (n : ℕ) → Ours (body lent) (numbers lent) n → i < n → closing_in (body lent) n i / 256 ≡ k → IsOkAnd r (λ x. x ≡ closing_in (body lent) n i)

-- closing i stands in block a and closing j in block b of a record whose own the summary is
pub record Asks (s : Stretch) (n : ℕ) : Type 0 where
  pub ours : Ours (body s.lent) (numbers s.lent) n
  pub among : s.j < n
  pub first : closing_in (body s.lent) n s.i / 256 ≡ s.a
  pub last : closing_in (body s.lent) n s.j / 256 ≡ s.b

-- closing i, looked for in block a: a closing of that block, or 9; the right one where it stands there, and the excess after it
pub record First (s : Stretch) (r : Result Closing Refusal) : Type 0 where
  pub there : IfOk r (λ c. ClosingAt (body s.lent) s.a c.place)
  pub nine : IfErr r (λ e. number e ≡ 9)
  pub right : (n : ℕ) → Asks s n → IsOkAnd r (λ c. (c.place ≡ closing_in (body s.lent) n s.i) × (c.excess ≡ height (body s.lent) c.place))

-- a place and the excess after it, counted from the ground, name the entry whose closing stands there
pub record Names (s : Stretch) (st : Scan) (o : Outcome) : Type 0 where
  pub allowed : Allowed s.i s.j o
  pub right : (q : ℕ) → st.place ≤ ground_level → st.smallest + 2 * (q + 1) ≡ ground_level + (st.place + 1) → s.i ≤ q → q ≤ s.j → o ≡ answer q

-- the last block's part, behind what stands lowest so far
pub record Finishes (s : Stretch) (best r : Scan) : Type 0 where
  pub bound : r.smallest ≤ best.smallest
  pub right : (n : ℕ) → Ours (body s.lent) (numbers s.lent) n → s.j < n → closing_in (body s.lent) n s.j / 256 ≡ s.b → 0 < s.b
      → Beats (height (body s.lent)) (256 * s.b) (closing_in (body s.lent) n s.j + 1) best.smallest best.place r

-- the record's own answer
abbrev pub Right : Stretch → ℕ → Outcome → Type 0
Right s n o = o ≡ answer (entry_between (parens_in (body s.lent) n) s.i s.j)

-- a block between the first and the last stands lowest so far: every excess from closing i to the end of its block is above
pub record Beyond (s : Stretch) (best : Best) (o : Outcome) : Type 0 where
  pub allowed : Allowed s.i s.j o
  pub right : (n : ℕ) → Asks s n → ((p : ℕ) → closing_in (body s.lent) n s.i ≤ p → p < 256 * s.a + 256 → ground_level + best.low < height (body s.lent) p)
      → s.a + 1 < s.b → Right s n o

-- closing i stands at this place, after which the excess is this
pub record Apart (s : Stretch) (first : Closing) (o : Outcome) : Type 0 where
  pub allowed : Allowed s.i s.j o
  pub right : (n : ℕ) → Asks s n → first.place ≡ closing_in (body s.lent) n s.i → first.excess ≡ height (body s.lent) first.place → Right s n o

-- closing i stands in block a and closing j in block b
pub record Spans (s : Stretch) (o : Outcome) : Type 0 where
  pub allowed : Allowed s.i s.j o
  pub right : (n : ℕ) → Asks s n → Right s n o

-- by the two blocks that the summary names
pub record Found (lent : Lent) (n i j : ℕ) (o : Outcome) : Type 0 where
  pub allowed : Allowed i j o
  pub named : IsStrange (numbers lent) n i ⊎ IsStrange (numbers lent) n j → o ≡ refusal 9
  pub right : Ours (body lent) (numbers lent) n → o ≡ answer (entry_between (parens_in (body lent) n) i j)
