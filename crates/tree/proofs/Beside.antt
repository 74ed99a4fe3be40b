-- Nodes that stand side by side: one alone, and the better of two parts, the left one where their numbers are equal.
-- Assumes nothing.
use mathlib.Core.Path.{refl}
use mathlib.Core.Logic.{⊎_elim}
use Prim.Native.Nat.{ℕ, ◌+◌, ◌*◌, ◌^◌, ◌≤◌, ◌<◌}
use native.Mathlib.Nat.{le_refl, le_trans, le_of_lt, lt_of_lt_of_le}
use native.Mathlib.Omega.{arith}
use mathlib.Core.List.{List}
use lib.Pow.{pow_pos}
use Rattle.std.proofs.lemmas.Bool.{cases_lt}
use Rattle.tree.specs.declared.Best.{Best}
use Rattle.tree.specs.Tree.{at, leaf, Halves, Within, Held}
use Rattle.tree.proofs.Nodes.{wider, node-lowest}

-- among the leaves from f up to before e, of which there may be none
pub record Lowest (t : List ℕ) (f e : ℕ) (b : Best) : Type 0 where
  pub none : e ≤ f → 65536 ≤ b.low
  pub some : f < e → Held t f e b

pub alone : {t : List ℕ} (v h : ℕ) → h ≤ 8 → at t v ≤ 65535 → Within v h 256 512
    → Lowest t (v * 2 ^ h) ((v + 1) * 2 ^ h) (record { low = at t v; node = v; level = h })
alone {t} v h l b w =
    record {
      none = λ p. absurd (omega (arith, pow_pos h));
      some = λ _. record {
        within = record { first = le_refl _; last = le_refl _ };
        level = l;
        number = refl;
        bound = b;
        lowest = λ H x f e. node-lowest H h v w (record { first = f; last = e });
        leftmost = λ H x f e. absurd (omega arith);
      };
    }

no_lower : {t : List ℕ} {f e : ℕ} {b : Best} → Lowest t f e b → Halves t → (x : ℕ) → f ≤ 256 + x → 256 + x < e → b.low ≤ leaf t x
no_lower w H x f e = (w.some (omega arith)).lowest H x f e

module _ {t : List ℕ} {f m e : ℕ} {L R : Best} (fm : f ≤ m) (me : m ≤ e) (left : Lowest t f m L) (right : Lowest t m e R) where
  -- what is at most every leaf's of both parts
  both : Halves t → (k x : ℕ) → k ≤ L.low → k ≤ R.low → f ≤ 256 + x → 256 + x < e → k ≤ leaf t x
  both H k x l r from upto =
      ⊎_elim
      (λ p. le_trans l (no_lower left H x from p))
      (λ p. le_trans r (no_lower right H x p upto))
      (cases_lt (256 + x) m)

  pub join_left : L.low ≤ R.low → Lowest t f e L
  join_left p =
      record {
        none = λ q. left.none (omega arith);
        some = λ q. ⊎_elim held (λ a. absurd (omega (arith, left.none a, (right.some (omega arith)).bound))) (cases_lt f m);
      }
    where
      held : f < m → Held t f e L
      held a =
          let l = left.some a in
          record {
            within = wider (le_refl f) me l.within;
            level = l.level;
            number = l.number;
            bound = l.bound;
            lowest = λ H x. both H L.low x (le_refl _) p;
            leftmost = l.leftmost;
          }

  pub join_right : R.low < L.low → Lowest t f e R
  join_right p =
      record {
        none = λ q. right.none (omega arith);
        some = λ q. ⊎_elim held (λ a. absurd (omega (arith, right.none a, (left.some (omega arith)).bound))) (cases_lt m e);
      }
    where
      held : m < e → Held t f e R
      held a =
          let r = right.some a in
          record {
            within = wider fm (le_refl e) r.within;
            level = r.level;
            number = r.number;
            bound = r.bound;
            lowest = λ H x. both H R.low x (le_of_lt p) (le_refl _);
            leftmost = λ H x from upto.
                ⊎_elim
                (λ q. lt_of_lt_of_le p (no_lower left H x from q))
                (λ q. r.leftmost H x q upto)
                (cases_lt (256 + x) m);
          }
