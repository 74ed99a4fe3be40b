-- From the checks, the blocks and the tree to the contract of `fill`.
-- Assumes nothing.
use mathlib.Core.Path.{◌≡◌, refl, sym, ◌∙◌}
use Prim.Native.Nat.{ℕ, ◌+◌, ◌-◌, ◌*◌, ◌≤◌, ◌<◌, zero-le}
use native.Mathlib.Decide.{dec_lt, ℕ_discrete}
use native.Mathlib.Omega.{arith}
use mathlib.Core.Bool.{Bool, true, false, cond}
use mathlib.Core.List.{List, ◌++◌}
use borrow.Author.Tests.{lt-ltb, le-ltb, ltb-false}
use lib.Dec.{ltb}
use lib.ListN.{length, drop, get_or}
use lib.Seq.{ext_get_or, take_all}
use Rattle.rules.specs.Shape.{Paren}
use Rattle.rules.specs.Excess.{closings}
use Rattle.rules.specs.Bytes.{parens}
use Rattle.rules.specs.Refusal.{answer, refusal}
use Rattle.rules.specs.Order.{check_says}
use Rattle.rules.specs.Summary.{slots, none, blocks_for, block_end, leaf, closing_block, slot, summary_of, fill_says, summary_after}
use Rattle.rules.proofs.Checked.{says_checked, parens-length}
use Rattle.rules.proofs.Summary.{summary-length, summary_at, slot_end, slot-nothing, slot-leaf, slot-closing, no_end, no-leaf}
use Rattle.answers.specs.declared.Refusal.{Refusal}
use Rattle.answers.specs.declared.Refusal.TheVariants.{WorkShort}
use Rattle.std.specs.Prelude.{Ok, Err}
use Rattle.answers.specs.Said.{number}
use Rattle.summary.specs.Fills.{Fills}
use Rattle.summary.specs.Laid.{Holds, Lays, Grows, laid, laid_to, grown_to}
use Rattle.summary.proofs.Slots.{held}
use Rattle.summary.proofs.Growing.{grown_past, grown_all}

-- ---- before the first block

laid_none : (s : List Paren) (x : ℕ) → laid_to s 0 x ≡ none
unfolding laid closings
laid_none s x =
    rw (le-ltb x 0 zero-le, le-ltb (x - 512) 0 zero-le, le-ltb (256 * (x - 768)) 0 zero-le)
    (regions (ltb x 256) (ltb x 512) (ltb x 768))
  where
    regions : (a b c : Bool) → cond a none (cond b none (cond c none none)) ≡ none
    regions true b c = refl
    regions false true c = refl
    regions false false true = refl
    regions false false false = refl

-- ---- behind the last block

-- a number that is 65,535 where it is not laid
all : (b : Bool) (v : ℕ) → (b ≡ false → v ≡ none) → v ≡ cond b v none
all true v h = refl
all false v h = h refl

module _ (s : List Paren) (n : ℕ) (long : length s ≡ 2 * n) where
  all_ends : (k : ℕ) → k < 256 → grown_to s 255 k ≡ laid_to s (blocks_for n) k
  unfolding grown_to laid
  all_ends k h =
      rw (le-ltb 256 k (omega arith), slot_end s k h, lt-ltb k 256 h)
      (all (ltb k (blocks_for n)) (block_end s k) (λ e. no_end s n long k (ltb-false k (blocks_for n) e)))

  all_nodes : (x : ℕ) → 256 ≤ x → x < 512 → grown_to s 255 x ≡ laid_to s (blocks_for n) x
  unfolding grown_to laid
  all_nodes x h l = rw (le-ltb x 256 h, lt-ltb x 512 l) (by (ℕ_discrete x 256))
    where
      by : Dec (x ≡ 256) → cond (ltb 256 x) none (slot s x) ≡ none
      by (yes e) = rw e (slot-nothing s)
      by (no e) = rw (lt-ltb 256 x (omega arith))

  all_leaves : (k : ℕ) → k < 256 → grown_to s 255 (512 + k) ≡ laid_to s (blocks_for n) (512 + k)
  unfolding laid
  all_leaves k h =
      let e : 512 + k - 512 ≡ k = omega arith in
      rw (grown_past s 255 (512 + k) (omega arith), slot-leaf s k h, le-ltb (512 + k) 256 (omega arith), le-ltb (512 + k) 512 (omega arith), lt-ltb (512 + k) 768 (omega arith), e)
      (all (ltb k (blocks_for n)) (leaf s k) (λ f. no-leaf s n long k (ltb-false k (blocks_for n) f)))

  all_closings : (t : ℕ) → grown_to s 255 (768 + t) ≡ laid_to s (blocks_for n) (768 + t)
  unfolding laid closing_block
  all_closings t =
      let e : 768 + t - 768 ≡ t = omega arith in
      rw (grown_past s 255 (768 + t) (omega arith), slot-closing s t, le-ltb (768 + t) 256 (omega arith), le-ltb (768 + t) 512 (omega arith), le-ltb (768 + t) 768 (omega arith), e, take_all (256 * blocks_for n) s (omega arith))

  laid_all : (x : ℕ) → grown_to s 255 x ≡ laid_to s (blocks_for n) x
  laid_all x = first (dec_lt x 256)
    where
      third : Dec (x < 768) → 512 ≤ x → grown_to s 255 x ≡ laid_to s (blocks_for n) x
      third (yes h) l = let e : 512 + (x - 512) ≡ x = omega arith in rw e at (all_leaves (x - 512) (omega arith))
      third (no h) l = let e : 768 + (x - 768) ≡ x = omega arith in rw e at (all_closings (x - 768))

      second : Dec (x < 512) → 256 ≤ x → grown_to s 255 x ≡ laid_to s (blocks_for n) x
      second (yes h) l = all_nodes x l h
      second (no h) l = third (dec_lt x 768) (omega arith)

      first : Dec (x < 256) → grown_to s 255 x ≡ laid_to s (blocks_for n) x
      first (yes h) = all_ends x h
      first (no h) = second (dec_lt x 512) (omega arith)

-- ---- the summary

held-summary : (s : List Paren) {t : List ℕ} → Holds (slot s) t → t ≡ summary_of s
held-summary s {t} h =
    ext_get_or 0 t (summary_of s) (h.size ∙ sym (summary-length s)) (λ x l. at x (omega (arith, h.size)))
  where
    at : (x : ℕ) → x < slots → get_or t x 0 ≡ get_or (summary_of s) x 0
    at x l = h.first x l ∙ sym (summary_at s x l)

pub filled : {r t t₁ t₂ t₃ : List ℕ} {n : ℕ} → check_says r ≡ answer n → slots ≤ length t → Lays (parens n r) 0 (blocks_for n) t₁ t₂ → Grows 0 t₂ t₃
    → Holds (λ x. none) t₁ → Fills r t (Ok n) (t₃ ++ drop slots t)
unfolding fill_says summary_after
filled {r} {t} {t₁} {t₂} {t₃} {n} e room lays grows blank =
    let s = parens n r in
    let checked = says_checked r n e in
    let long : length s ≡ 2 * n = parens-length r n checked.framed.long in
    let blocks : Holds (laid_to s (blocks_for n)) t₂ = lays.holds (held (laid_to s 0) blank (λ x l. laid_none s x)) in
    let tree : Holds (grown_to s 0) t₃ = grows.holds s (held (grown_to s 255) blocks (λ x l. laid_all s n long x)) in
    let whole : Holds (slot s) t₃ = held (slot s) tree (λ x l. sym (grown_all s x)) in
    record {
      says = rw (e, le-ltb (length t) slots room);
      summary = rw (e, le-ltb (length t) slots room, checked.framed.says, held-summary s whole);
    }

pub refused : {r : List ℕ} (t : List ℕ) (x : Refusal) → check_says r ≡ refusal (number x) → Fills r t (Err x) t
unfolding fill_says summary_after
refused t x e = record { says = rw e; summary = rw e }

pub refused-short : {r t : List ℕ} {n : ℕ} → check_says r ≡ answer n → length t < slots → Fills r t (Err WorkShort) t
unfolding fill_says summary_after
refused-short {r} {t} e h =
    record { says = rw (e, lt-ltb (length t) slots h); summary = rw (e, lt-ltb (length t) slots h) }
