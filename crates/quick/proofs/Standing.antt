-- Where a closing stands in a block: by the bits of the block for any bytes, and the right one for a record's own summary.
-- Assumes nothing.
use mathlib.Core.Path.{◌≡◌, refl, sym, ap, ◌∙◌}
use Prim.Native.Nat.{ℕ, ◌+◌, ◌-◌, ◌*◌, ◌/◌, ◌≤◌, ◌<◌}
use native.Mathlib.Nat.{eq-zero-or-pos}
use native.Mathlib.Omega.{arith}
use mathlib.Core.Logic.{⊎_elim}
use mathlib.Core.List.{List}
use Rattle.std.specs.Prelude.{Option, Some, None, Ok, Err, IsSomeAnd}
use Rattle.answers.specs.declared.Refusal.TheVariants.{Foreign}
use Rattle.answers.specs.Said.{Answer}
use borrow.Author.Tests.{lt-ltb}
use lib.ListN.{length, take, drop, get_or, length-drop, length-take}
use lib.Seq.{take_all, take-take, get_or-take, get_or-drop}
use Rattle.rules.specs.Shape.{opening, closing}
use Rattle.rules.specs.Excess.{closings, closing_place}
use Rattle.rules.specs.Bytes.{all_bits}
use Rattle.rules.proofs.Bytes.{all_bits-length, all_bits-take, all_bits-drop}
use Rattle.rules.proofs.ClosingPlace.{closing-within}
use Rattle.rules.proofs.Parts.{closing-closes}
use Rattle.rules.proofs.Blocks.{closing-from, in_block_lem, excess-closings}
use Rattle.blocks.specs.Search.{Before}
use Rattle.blocks.specs.Select.{select_of, Selects}
use Rattle.quick.specs.declared.Lent.{Lent}
use Rattle.quick.specs.Part.{end_of, Block, ClosingAt}
use Rattle.quick.specs.Quick.{parens_in, Ours, closing_in}
use Rattle.quick.specs.Stretch.{body, numbers, Stands}
use Rattle.quick.proofs.Beats.{split}
use Rattle.quick.proofs.Ours.{closings_n, closings_all, closing_same, closing_low}

-- ---- the bits of block k

module _ (body : List ℕ) (k : ℕ) (block : Block body k) where
  block-bits : all_bits (take (end_of body k - 32 * k) (drop (32 * k) body)) ≡ take 256 (drop (256 * k) (all_bits body))
  block-bits =
      let s = block.starts in
      let w = end_of body k - 32 * k in
      let e : 8 * (32 * k) ≡ 256 * k = omega arith in
      let d : length (drop (256 * k) (all_bits body)) ≡ 8 * length body - 256 * k = length-drop (256 * k) (all_bits body) ∙ ap (◌- 256 * k) (all_bits-length body) in
      all_bits-take w (drop (32 * k) body)
      ∙ ap (take (8 * w)) (rw e at (all_bits-drop (32 * k) body))
      ∙ split (length body) (32 * k + 32)
      (λ h. take_all (8 * w) (drop (256 * k) (all_bits body)) (omega arith) ∙ sym (take_all 256 (drop (256 * k) (all_bits body)) (omega arith)))
      (λ h. let f : 8 * w ≡ 256 = omega arith in rw f)

  bits-length : length (take 256 (drop (256 * k) (all_bits body))) ≡ 8 * (end_of body k - 32 * k)
  bits-length =
      let s = block.starts in
      omega (arith, length-take 256 (drop (256 * k) (all_bits body)), length-drop (256 * k) (all_bits body), all_bits-length body)

  -- a place that select finds is a closing's
  pub selected : (m x : ℕ) → Selects (all_bits (take (end_of body k - 32 * k) (drop (32 * k) body))) m (Some x) → ClosingAt body k (256 * k + x)
  unfolding select_of
  selected m x found =
      let bits = take 256 (drop (256 * k) (all_bits body)) in
      let (among, stands) = rw block-bits at found in
      let is : x ≡ closing_place bits m = stands ∙ rw (lt-ltb m (closings bits) among) in
      let w = closing-within bits m among in
      let l : length bits ≡ 8 * (end_of body k - 32 * k) = bits-length in
      let s = block.starts in
      let c : get_or bits x opening ≡ closing = ap (λ (p : ℕ). get_or bits p opening) is ∙ closing-closes bits m among in
      let d : get_or bits x opening ≡ get_or (all_bits body) (256 * k + x) opening =
      get_or-take 256 (drop (256 * k) (all_bits body)) x opening (omega arith) ∙ get_or-drop (256 * k) (all_bits body) x opening in
      record { from = omega arith; upto = omega arith; within = omega arith; closes = sym d ∙ c }

-- ---- the record's own

module _ (body t : List ℕ) (n k i : ℕ) (ours : Ours body t n) (among : i < n) (there : closing_in body n i / 256 ≡ k) (e : ℕ) (before : Before t k e) where
  low : closing_in body n i < 2 * n
  low = closing_low body t n ours i among

  -- the closings before the block, by the excess there
  counted : e + 2 * closings (take (256 * k) (parens_in body n)) ≡ 256 * k
  unfolding closings
  counted = ⊎_elim (λ z. first z) (λ p. later p) (eq-zero-or-pos k)
    where
      first : k ≡ 0 → e + 2 * closings (take (256 * k) (parens_in body n)) ≡ 256 * k
      first z = rw z (omega (arith, before.first z))

      later : 0 < k → e + 2 * closings (take (256 * k) (parens_in body n)) ≡ 256 * k
      later p =
          let l = ours.own.long in
          let w = low in
          omega (arith, before.right (parens_in body n) n ours.own p (omega arith), excess-closings (parens_in body n) (256 * k) ours.own.balance (omega arith) (omega arith))

  passed : closings (take (256 * k) (parens_in body n)) ≤ i
  passed = closing-from (parens_in body n) i (256 * k) (omega (arith, closings_n body t n ours)) (omega arith)

  not_before : 256 * k ≤ 2 * i + e
  not_before = omega (arith, counted, passed)

  right_there : Block body k → (r : Option ℕ) → Selects (all_bits (take (end_of body k - 32 * k) (drop (32 * k) body))) ((2 * i + e - 256 * k) / 2) r
      → IsSomeAnd r (λ x. 256 * k + x ≡ closing_in body n i)
  unfolding select_of
  right_there block r found =
      let u = all_bits body in
      let bits = take 256 (drop (256 * k) u) in
      let w = low in
      let same : closings (take (256 * k) u) ≡ closings (take (256 * k) (parens_in body n)) = ap closings (sym (take-take (256 * k) (2 * n) u (omega arith))) in
      let m : (2 * i + e - 256 * k) / 2 ≡ i - closings (take (256 * k) u) = omega (arith, counted, passed) in
      let all : n ≤ closings u = closings_all body t n ours in
      let at : closing_place u i ≡ closing_in body n i = closing_same body t n ours i among in
      let p = in_block_lem u i k (omega arith) (ap (◌/ 256) at ∙ there) in
      by r (rw (block-bits body k block, m) at found) p.among (sym p.stands ∙ at)
    where
      by : (r : Option ℕ) → Selects (take 256 (drop (256 * k) (all_bits body))) (i - closings (take (256 * k) (all_bits body))) r
          → i - closings (take (256 * k) (all_bits body)) < closings (take 256 (drop (256 * k) (all_bits body)))
          → 256 * k + closing_place (take 256 (drop (256 * k) (all_bits body))) (i - closings (take (256 * k) (all_bits body))) ≡ closing_in body n i
          → IsSomeAnd r (λ x. 256 * k + x ≡ closing_in body n i)
      by None few more at = absurd (omega (arith, few, more))
      by (Some x) found more at = ap (256 * k +◌) (found.1 ∙ rw (lt-ltb _ _ more)) ∙ at

-- ---- as the code has them

-- closing i, by what select says of the block's bits
abbrev pub placed : ℕ → Option ℕ → Answer
placed k None = Err Foreign
placed k (Some x) = Ok (256 * k + x)

module _ (lent : Lent) (k i e : ℕ) (before : Before (numbers lent) k e) where
  pub not_there : 2 * i + e < 256 * k → Stands lent k i (Err Foreign)
  not_there h =
      record { there = tt; nine = refl; right = λ n ours among at. omega (arith, not_before (body lent) (numbers lent) n k i ours among at e before, h) }

  pub stands_there : Block (body lent) k → (twice : ℕ) → twice ≡ 2 * i + e - 256 * k → (end : ℕ) → end ≡ end_of (body lent) k → (r : Option ℕ)
      → Selects (all_bits (take (end - 32 * k) (drop (32 * k) (body lent)))) (twice / 2) r → Stands lent k i (placed k r)
  stands_there block twice less end is r found = by r (rw (less, is) at found)
    where
      by : (r : Option ℕ) → Selects (all_bits (take (end_of (body lent) k - 32 * k) (drop (32 * k) (body lent)))) ((2 * i + e - 256 * k) / 2) r → Stands lent k i (placed k r)
      by None found =
          record { there = tt; nine = refl; right = λ n ours among at. absurd (right_there (body lent) (numbers lent) n k i ours among at e before block None found) }
      by (Some x) found =
          record {
            there = selected (body lent) k block _ x found;
            nine = tt;
            right = λ n ours among at. right_there (body lent) (numbers lent) n k i ours among at e before block (Some x) found;
          }
