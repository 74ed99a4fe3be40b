-- One number stored: what the slots held before, and what they hold after it.
-- Assumes nothing.
use mathlib.Core.Path.{◌≡◌, refl, sym, ◌∙◌}
use Prim.Native.Nat.{ℕ, ◌+◌, ◌-◌, ◌*◌, ◌/◌, ◌≤◌, ◌<◌}
use native.Mathlib.Decide.{ℕ_discrete, dec_lt}
use native.Mathlib.Omega.{arith}
use mathlib.Core.Bool.{Bool, true, false, cond}
use mathlib.Core.List.{List}
use borrow.Author.Tests.{lt-ltb, le-ltb, ltb-true, ltb-false}
use lib.Dec.{ltb}
use lib.ListN.{length, take, get_or, set, replicate, length-set, length-replicate, get_or-replicate}
use lib.Seq.{length-take-le, get_or-set_same, get_or-set_other}
use Rattle.rules.specs.Shape.{Paren}
use Rattle.rules.specs.Excess.{closing_place}
use Rattle.rules.specs.Bytes.{most}
use Rattle.rules.specs.Summary.{slots, none, block_end, leaf}
use Rattle.rules.proofs.ClosingPlace.{closings-more, closings_few, closings_part, closing_behind, closing-among}
use Rattle.summary.specs.declared.block.Block.{Block}
use Rattle.summary.specs.Reads.{Reads}
use Rattle.summary.specs.Laid.{Holds, Lays, laid, closed, laid_to, noted}

-- a number stored at y
pub stored : {f : ℕ → ℕ} {t : List ℕ} (g : ℕ → ℕ) (y v : ℕ) → Holds f t → y < slots → g y ≡ v → ((x : ℕ) → x < slots → (x ≡ y → ⊥) → g x ≡ f x)
    → Holds g (set t y v)
stored {f} {t} g y v h l here there =
    record { size = length-set t y v ∙ h.size; first = λ x a. at x a (ℕ_discrete x y) }
  where
    at : (x : ℕ) → x < slots → Dec (x ≡ y) → get_or (set t y v) x 0 ≡ g x
    at x a (yes e) = rw e (get_or-set_same t y v 0 (omega (arith, h.size)) ∙ sym here)
    at x a (no n) = get_or-set_other t y x v 0 n ∙ h.first x a ∙ sym (there x a n)

-- the same slots by another rule
pub held : {f : ℕ → ℕ} {t : List ℕ} (g : ℕ → ℕ) → Holds f t → ((x : ℕ) → x < slots → g x ≡ f x) → Holds g t
held g h e = record { size = h.size; first = λ x a. h.first x a ∙ sym (e x a) }

-- one of m numbers that are 65,535
pub written : (l : List ℕ) (m x : ℕ) → l ≡ replicate m none → x < length l → get_or l x 0 ≡ none
written l m x e h =
    let k : length l ≡ m = rw e (length-replicate m none) in
    rw e (get_or-replicate m x none 0 (omega (arith, k)))

-- the first 896 numbers of a longer summary, each 65,535
pub blanked : (t : List ℕ) {t₀ t₁ : List ℕ} → slots ≤ length t → t₀ ≡ take slots t → t₁ ≡ replicate (length t₀) none → Holds (λ y. none) t₁
blanked t {t₀} {t₁} room part e =
    let size : length t₁ ≡ slots = rw (e, length-replicate, part) (length-take-le slots t room) in
    record { size = size; first = λ x h. written t₁ (length t₀) x e (omega (arith, size)) }

-- ---- a block's numbers

-- two limits that x is below or not below together
pub same_test : (x a b : ℕ) → (x < a → x < b) → (x < b → x < a) → ltb x a ≡ ltb x b
same_test x a b f g = by (dec_lt x a)
  where
    by : Dec (x < a) → ltb x a ≡ ltb x b
    by (yes l) = lt-ltb x a l ∙ sym (lt-ltb x b (f l))
    by (no n) = le-ltb x a (omega arith) ∙ sym (le-ltb x b (let h : x < b → ⊥ = λ l. n (g l) in omega arith))

module _ (s : List Paren) where
  end_laid : {t : List ℕ} (k l c : ℕ) → k < 256 → Holds (laid s k l c) t → Holds (laid s (k + 1) l c) (set t k (block_end s k))
  unfolding laid
  end_laid k l c small h =
      stored (laid s (k + 1) l c) k (block_end s k) h (omega arith)
      (rw (lt-ltb k 256 small, lt-ltb k (k + 1) (omega arith)))
      (λ x a n. rw (same_test x (k + 1) k (λ b. omega arith) (λ b. omega arith)))

  leaf-laid : {t : List ℕ} (k a c : ℕ) → k < 256 → Holds (laid s a k c) t → Holds (laid s a (k + 1) c) (set t (512 + k) (leaf s k))
  unfolding laid
  leaf-laid k a c small h =
      stored (laid s a (k + 1) c) (512 + k) (leaf s k) h (omega arith) here (λ x l n. there x n (ltb x 512) refl)
    where
      here : laid s a (k + 1) c (512 + k) ≡ leaf s k
      here =
          let e : 512 + k - 512 ≡ k = omega arith in
          rw (le-ltb (512 + k) 256 (omega arith), le-ltb (512 + k) 512 (omega arith), lt-ltb (512 + k) 768 (omega arith), e, lt-ltb k (k + 1) (omega arith))

      there : (x : ℕ) → (x ≡ 512 + k → ⊥) → (b : Bool) → ltb x 512 ≡ b → laid s a (k + 1) c x ≡ laid s a k c x
      there x n true e = rw e
      there x n false e =
          let l = ltb-false x 512 e in
          rw (same_test (x - 512) (k + 1) k (λ b. omega arith) (λ b. omega arith))

  -- of the closings c to d - 1, 256 at most, one at most has a slot; all stand in block k
  closing-laid : {t : List ℕ} (k a l c d : ℕ) → c ≤ d → d ≤ c + 256 → d ≤ most → ((i : ℕ) → c ≤ i → i < d → closing_place s i / 256 ≡ k)
      → Holds (laid s a l c) t → Holds (laid s a l d) (cond (ltb (256 * ((c + 255) / 256)) d) (set t (768 + (c + 255) / 256) k) t)
  unfolding laid
  closing-laid {t} k a l c d some near few block h = by (ltb (256 * y) d) refl
    where
      y : ℕ
      y = (c + 255) / 256

      there : (x : ℕ) → (x ≡ 768 + y → ⊥) → (b : Bool) → ltb x 768 ≡ b → laid s a l d x ≡ laid s a l c x
      there x n true e = rw e
      there x n false e =
          let g = ltb-false x 768 e in
          rw (same_test (256 * (x - 768)) d c (λ b. omega arith) (λ b. omega arith))

      by : (b : Bool) → ltb (256 * y) d ≡ b → Holds (laid s a l d) (cond b (set t (768 + y) k) t)
      by true e =
          let g = ltb-true (256 * y) d e in
          let f : 768 + y - 768 ≡ y = omega arith in
          stored (laid s a l d) (768 + y) k h (omega arith)
          (rw (le-ltb (768 + y) 256 (omega arith), le-ltb (768 + y) 512 (omega arith), le-ltb (768 + y) 768 (omega arith), f, e) (block (256 * y) (omega arith) g))
          (λ x u n. there x n (ltb x 768) refl)
      by false e =
          let g = ltb-false (256 * y) d e in
          held (laid s a l d) h (λ x u. rw (same_test (256 * (x - 768)) d c (λ b. omega arith) (λ b. omega arith)))

  -- all that block k gives
  pub block-laid : {t : List ℕ} (k : ℕ) → k < 256 → closed s (k + 1) ≤ most → Holds (laid_to s k) t
      → Holds (laid_to s (k + 1)) (noted t k (closed s k) (closed s (k + 1)) (block_end s k) (leaf s k))
  block-laid k small few h =
      let e : 256 * (k + 1) ≡ 256 * k + 256 = omega arith in
      let near : closed s (k + 1) ≤ closed s k + 256 = rw e (closings_few s (256 * k) 256) in
      closing-laid k (k + 1) (k + 1) (closed s k) (closed s (k + 1)) (closings-more s (256 * k) (256 * (k + 1)) (omega arith)) near few (λ i from upto. within i from upto)
      (leaf-laid k (k + 1) (closed s k) small (end_laid k k (closed s k) small h))
    where
      within : (i : ℕ) → closed s k ≤ i → i < closed s (k + 1) → closing_place s i / 256 ≡ k
      within i from upto =
          omega (arith, closing_behind s i (256 * k) from (omega (arith, closings_part s (256 * (k + 1)))), closing-among s i (256 * (k + 1)) upto)

pub lays_none : (s : List Paren) (k : ℕ) (t : List ℕ) → Lays s k k t t
lays_none s k t = record { holds = λ h. h }

pub lays-on : {s : List Paren} {t t' t'' : List ℕ} {j k : ℕ} {b : Block} → k < 256 → b.upto ≤ most → Lays s j k t t' → Reads s k b
    → t'' ≡ noted t' k b.from b.upto b.end b.least → Lays s j (k + 1) t t''
lays-on {s} {t} {t'} {t''} {j} {k} small few lays reads stores =
    record { holds = λ h. rw (stores, reads.from, reads.upto, reads.end, reads.least) (block-laid s k small (omega (arith, reads.upto)) (lays.holds h)) }
