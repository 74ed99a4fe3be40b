-- No input allows two results, proved. Assumes nothing.
use mathlib.Core.Path.{◌≡◌, sym, ◌∙◌}
use Prim.Native.Nat.{ℕ}
use mathlib.Core.List.{List}
use Rattle.rules.specs.Refusal.{Outcome, refusal}
use Rattle.rules.specs.Order.{ask_says}
use Rattle.rules.specs.Summary.{QuickSays}
use Rattle.answers.specs.Said.{said}
use Rattle.answers.proofs.Said.{one}
use Rattle.promises.specs.Once.{Settled, refused, own, named, Once}

-- what the quick ask says where it has one result
settles : {r t : List ℕ} {i j : ℕ} → Settled r t i j → (o : Outcome) × ((p : Outcome) → QuickSays r t i j p → p ≡ o)
settles (refused k e) = (refusal k, λ p may. may.refused k e)
settles {r} {t} {i} {j} (own n says same) = (ask_says r i j, λ p may. may.right n says same)
settles (named n e s) = (refusal 9, λ p may. may.named n e s)

pub once : Once
once =
    record {
      frame = λ r. one;
      check = λ r. one;
      build = λ c w o a b w₁ o₁ w₂ o₂ x y.
          (one a b x.says y.says, x.work ∙ sym y.work, x.output ∙ sym y.output);
      ask = λ r i j. one;
      standing_in = λ r col a b col₁ col₂ x y. (one a b x.says y.says, x.column ∙ sym y.column);
      fill = λ r t a b t₁ t₂ x y. (one a b x.says y.says, x.summary ∙ sym y.summary);
      quick_ask = λ r t i j settled a b x y.
          let (o, only) = settles settled in one a b (only (said a) x) (only (said b) y);
    }
