-- Behind the frame: the checks in their order, by what the code's tests say, and the whole ask by what the frame has said.
-- Assumes nothing.
use mathlib.Core.Path.{◌≡◌, sym, ap, subst, subst⁻¹, ◌∙◌}
use mathlib.Core.Logic.{◌⊎◌, ⊎_elim}
use Prim.Native.Nat.{ℕ, ◌-◌, ◌≤◌, ◌<◌}
use native.Mathlib.Omega.{arith}
use mathlib.Core.List.{List}
use borrow.Author.Tests.{lt-ltb, le-ltb}
use lib.Dec.{ltb}
use lib.ListN.{length, take, drop, length-take, length-drop}
use lib.Seq.{take_all}
use Rattle.rules.specs.Bytes.{record_length, parens}
use Rattle.rules.specs.Refusal.{Outcome, answer, refusal}
use Rattle.rules.specs.Order.{frame_says, check_says, ask_says}
use Rattle.rules.specs.Excess.{entry_between}
use Rattle.rules.specs.Summary.{IsStrange, slots, summary_of, quick_checks, QuickSays}
use Rattle.rules.proofs.Checked.{not_refused, passed, says_framed, says_checked, parens-length}
use Rattle.rules.proofs.Summary.{summary-length}
use Rattle.ask.proofs.Says.{ask_crossed, ask_outside, ask-answered}
use Rattle.quick.specs.declared.Lent.{Lent}
use Rattle.quick.specs.Quick.{parens_in, Ours, framed_checks, Framed}
use Rattle.quick.specs.Stretch.{body, numbers, Found}
use Rattle.quick.proofs.Beats.{split}

-- no refusal is an answer
never : {A : Type 0} (k m : ℕ) → ◌≡◌ {A = Outcome} (refusal k) (answer m) → A
never k m e = absurd (let z : ◌≡◌ {A = ℕ} 0 1 = cc in omega arith)

module _ (r t : List ℕ) (n i j : ℕ) where
  -- ---- 11, 3, 8, or none of them

  says_after : record_length n < length r → framed_checks r (length t) n i j ≡ refusal 11
  unfolding framed_checks
  says_after h = rw (lt-ltb (record_length n) (length r) h)

  module _ (whole : length r ≤ record_length n) where
    says-short : length t < slots → framed_checks r (length t) n i j ≡ refusal 3
    unfolding framed_checks
    says-short h = rw (le-ltb (record_length n) (length r) whole, lt-ltb (length t) slots h)

    module _ (room : slots ≤ length t) where
      says-crossed : j < i → framed_checks r (length t) n i j ≡ refusal 8
      unfolding framed_checks
      says-crossed h = rw (le-ltb (record_length n) (length r) whole, le-ltb (length t) slots room, lt-ltb j i h)

      says_past : i ≤ j → n ≤ j → framed_checks r (length t) n i j ≡ refusal 8
      unfolding framed_checks
      says_past h l = rw (le-ltb (record_length n) (length r) whole, le-ltb (length t) slots room, le-ltb j i h, le-ltb j n l)

      says-inside : i ≤ j → j < n → framed_checks r (length t) n i j ≡ answer n
      unfolding framed_checks
      says-inside h l = rw (le-ltb (record_length n) (length r) whole, le-ltb (length t) slots room, le-ltb j i h, lt-ltb j n l)

  -- the checks say n, if they let by
  answers_n : (m : ℕ) → framed_checks r (length t) n i j ≡ answer m → n ≡ m
  unfolding framed_checks
  answers_n m e =
      let a = not_refused (ltb (record_length n) (length r)) 11 e in
      let b = not_refused (ltb (length t) slots) 3 a.1 in
      let c = not_refused (ltb j i) 8 b.1 in
      let d = passed (ltb j n) 8 c.1 in
      cc d.1

  -- ---- what is said by each

  refuses : (k : ℕ) → framed_checks r (length t) n i j ≡ refusal k → Framed r t n i j (refusal k)
  refuses k e =
      record {
        refused = λ l f. sym e ∙ f;
        allowed = λ m f. never k m (sym e ∙ f);
        named = λ m f. never k m (sym e ∙ f);
        right = λ m f. never k m (sym e ∙ f);
      }

  pub bytes_after : record_length n < length r → Framed r t n i j (refusal 11)
  bytes_after h = refuses 11 (says_after h)

  module _ (whole : length r ≤ record_length n) where
    pub summary_short : length t < slots → Framed r t n i j (refusal 3)
    summary_short h = refuses 3 (says-short whole h)

    module _ (room : slots ≤ length t) where
      pub range_missed : (j < i) ⊎ (i ≤ j × n ≤ j) → Framed r t n i j (refusal 8)
      range_missed = ⊎_elim (λ h. refuses 8 (says-crossed whole room h)) (λ h. refuses 8 (says_past whole room h.0 h.1))

      pub asked_within : (lent : Lent) (o : Outcome) → body lent ≡ take (length r - 4) (drop 4 r) → numbers lent ≡ t → i ≤ j → j < n → Found lent n i j o → Framed r t n i j o
      asked_within lent o behind beside h l found =
          let bytes : body lent ≡ drop 4 r = behind ∙ take_all (length r - 4) (drop 4 r) (omega (arith, length-drop 4 r)) in
          let e = says-inside whole room h l in
          record {
            refused = λ k g. never k n (sym g ∙ e);
            allowed = λ m g. found.allowed;
            named = λ m g. subst (λ (u : List ℕ). IsStrange u n i ⊎ IsStrange u n j → o ≡ refusal 9) beside found.named;
            right = λ m g ours.
                subst (λ (w : List ℕ). o ≡ answer (entry_between (parens_in w n) i j)) bytes
                (found.right (subst⁻¹ (λ (w : List ℕ). Ours w (numbers lent) n) bytes (subst⁻¹ (λ (u : List ℕ). Ours (drop 4 r) u n) beside ours)));
          }

-- ---- the whole ask

module _ (r t : List ℕ) (i j : ℕ) where
  -- the frame has refused
  pub frame_refused : (k : ℕ) → frame_says r ≡ refusal k → QuickSays r t i j (refusal k)
  unfolding quick_checks check_says
  frame_refused k e =
      let q : quick_checks r (length t) i j ≡ refusal k = rw e in
      let c : check_says r ≡ refusal k = rw e in
      record {
        refused = λ l f. sym q ∙ f;
        allowed = λ m f. never k m (sym q ∙ f);
        named = λ m f. never k m (sym q ∙ f);
        right = λ m f. never k m (sym c ∙ f);
      }

  module _ (n : ℕ) (frame : frame_says r ≡ answer n) where
    -- what it lets by is as long as the head says
    pub framed_long : record_length n ≤ length r
    framed_long = (says_framed r n frame).long

    pub framed_few : n ≤ 32768
    framed_few = (says_framed r n frame).few

    same-checks : quick_checks r (length t) i j ≡ framed_checks r (length t) n i j
    unfolding quick_checks framed_checks
    same-checks = rw frame

    -- the record's own summary
    module _ (checks : check_says r ≡ answer n) (filled : take slots t ≡ summary_of (parens n r)) where
      room : slots ≤ length t
      room = omega (arith, length-take slots t, ap length filled, summary-length (parens n r))

      ours : Ours (drop 4 r) t n
      unfolding parens
      ours =
          let c = says_checked r n checks in
          record {
            own = record { balance = c.balance; long = parens-length r n c.framed.long; few = c.framed.few; filled = filled };
            whole = omega (arith, length-drop 4 r, c.whole);
          }

      plainly : (o : Outcome) → Framed r t n i j o → o ≡ ask_says r i j
      unfolding parens
      plainly o says =
          let c = says_checked r n checks in
          let whole : length r ≤ record_length n = omega (arith, c.whole) in
          split j i
          (λ h. says.refused 8 (says-crossed r t n i j whole room h) ∙ sym (ask_crossed r i j checks h))
          (λ h. split j n
          (λ l. says.right n (says-inside r t n i j whole room h l) ours ∙ sym (ask-answered r i j checks h l))
          (λ l. says.refused 8 (says_past r t n i j whole room h l) ∙ sym (ask_outside r i j checks h l)))

    pub framed_asks : (o : Outcome) → Framed r t n i j o → QuickSays r t i j o
    framed_asks o says =
        record {
          refused = λ k e. says.refused k (sym same-checks ∙ e);
          allowed = λ m e. says.allowed m (sym same-checks ∙ e);
          named = λ m e. rw (← (answers_n r t n i j m (sym same-checks ∙ e))) (says.named m (sym same-checks ∙ e));
          right = λ m checks filled.
              let e : n ≡ m = sym (says_framed r n frame).says ∙ (says_checked r m checks).framed.says in
              plainly (rw e checks) (rw e filled) o says;
        }
