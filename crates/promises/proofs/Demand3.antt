-- Demand 3 and the privacy of build, proved. Assumes nothing.
use mathlib.Core.Path.{◌≡◌, sym, ap, ◌∙◌}
use Prim.Native.Nat.{ℕ, ◌≤◌}
use native.Mathlib.Omega.{arith}
use mathlib.Core.List.{List}
use lib.ListN.{length, take, get_or}
use Rattle.rules.specs.Column.{Alike}
use Rattle.rules.specs.Shape.{shape}
use Rattle.rules.specs.Bytes.{Bytes, most, column_record, parens}
use Rattle.rules.specs.Refusal.{answer}
use Rattle.rules.specs.Order.{build_says, output_after, work_after, check_says}
use Rattle.rules.proofs.Record.{accepted_record}
use Rattle.theory.proofs.Agree.{alike_record, shapes_alike}
use Rattle.theory.proofs.StandInTree.{balanced-column}
use Rattle.answers.proofs.Said.{said_once}
use Rattle.promises.specs.Demand3.{Column, Demand3, BuildPrivate}
use Rattle.promises.proofs.Demand2.{column-accepted, column-parens, closings-entries}

-- the same record has the same parentheses, and so the same places
record_alike : (c d : List ℕ) → length c ≡ length d → column_record c ≡ column_record d → Alike (length c) c d
record_alike c d len e =
    let f : shape c ≡ shape d = sym (column-parens c) ∙ ap (parens (length c)) e ∙ ap (λ (n : ℕ). parens n (column_record d)) len ∙ column-parens d in
    shapes_alike c d f

accepts : (r : List ℕ) → Bytes r → (n : ℕ) → check_says r ≡ answer n → (c : List ℕ) × Column c × (r ≡ column_record c)
unfolding column_record
accepts r bytes n says =
    let a = accepted_record r n bytes says in
    let (c, len, s, small) = balanced-column (parens n r) a.balance in
    let l : length c ≡ n = len ∙ closings-entries r n a in
    (c, column c l a.few (λ k. omega (arith, small k, closings-entries r n a)), a.again ∙ rw (l, s))
  where
    column : (c : List ℕ) → length c ≡ n → n ≤ most → ((k : ℕ) → get_or c k 0 ≤ n) → Column c
    column c l few small = record { few = omega arith; counts = λ k. omega (arith, small k) }

pub demand3 : Demand3
demand3 =
    record {
      same_records = λ c d _ _ len. (record_alike c d len, alike_record c d len);
      accepts = λ r bytes. (λ (n, says). accepts r bytes n says, λ (c, col, e). (length c, ap check_says e ∙ column-accepted c col.few));
    }

-- ---- privacy

-- build's rule never looks at a count: it goes by the length and the record
same_rules : (c d w o : List ℕ) → length c ≡ length d → column_record c ≡ column_record d
    → (build_says c (length w) (length o) ≡ build_says d (length w) (length o)) × (output_after c w o ≡ output_after d w o) × (work_after c w o ≡ work_after d w o)
unfolding build_says output_after work_after
same_rules c d w o len rec = (rw len, rw (len, rec), rw len)

pub build-private : BuildPrivate
build-private =
    record {
      private = λ c d w o len same a b w₁ o₁ w₂ o₂ one two.
          let (says, output, work) = same_rules c d w o len (alike_record c d len same) in (
            said_once a b (one.says ∙ says ∙ sym two.says),
            one.output ∙ output ∙ sym two.output,
            ap (take (length c)) (one.work ∙ work ∙ sym two.work),
          );
    }
