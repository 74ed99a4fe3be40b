-- The left spine of a tree, on which a builder that goes from the right keeps the places still open: what one more entry does to the spine
-- and to the parentheses, which are an opening for each place on the spine and then the rest. Assumes nothing.
use mathlib.Core.Path.{◌≡◌, refl, ap, ◌∙◌}
use Prim.Native.Nat.{ℕ, zero, suc, ◌-◌, ◌≤◌, ◌<◌, zero-le}
use native.Mathlib.Nat.{sub-zero, suc-sub-suc, le_refl}
use native.Mathlib.Omega.{arith}
use mathlib.Core.Bool.{Bool, true, false, cond}
use mathlib.Core.List.{List, [], ◌∷◌, ◌++◌, append_assoc}
use lib.Dec.{leb}
use lib.ListN.{replicate}
use borrow.Author.Tests.{leb-true, leb-false}
use Rattle.rules.specs.Shape.{Paren, opening, closing}
use Rattle.theory.proofs.Tree.{Tree, tip, node, written, push, tree_of, spine}

-- the parentheses behind the spine's openings
unfoldable pub rest : Tree → List Paren
rest tip = []
rest (node l m r) = rest l ++ closing ∷ written r

pub written-rest : (t : Tree) → written t ≡ replicate (spine t) opening ++ rest t
unfolding written rest spine
written-rest tip = refl
written-rest (node l m r) = rw (written-rest l, append_assoc)

-- how many places from the root on stay above one more entry: those with a smaller entry
unfoldable pub kept : ℕ → Tree → ℕ
kept a tip = 0
kept a (node l m r) = cond (leb a m) 0 (suc (kept a l))

-- one more entry goes above the root, or into the left part
module _ (P : ℕ → Tree → Type 0) (a : ℕ) (l : Tree) (m : ℕ) (r : Tree) where
  pushed : (a ≤ m → P 0 (node tip a (node l m r))) → (m < a → P (suc (kept a l)) (node (push a l) m r)) → P (kept a (node l m r)) (push a (node l m r))
  unfolding push kept
  pushed above below = by (leb a m) refl
    where
      by : (b : Bool) → leb a m ≡ b → P (cond b 0 (suc (kept a l))) (cond b (node tip a (node l m r)) (node (push a l) m r))
      by true e = above (leb-true a m e)
      by false e = below (leb-false a m e)

pub spine-push : (a : ℕ) (t : Tree) → spine (push a t) ≡ suc (kept a t)
unfolding spine push kept
spine-push a tip = refl
spine-push a (node l m r) =
    pushed (λ k t. spine t ≡ suc k) a l m r (λ _. refl) (λ _. ap suc (spine-push a l))

-- the builder's step: openings for the places that go, then the entry's closing
pub rest-push : (a : ℕ) (t : Tree) → rest (push a t) ≡ closing ∷ replicate (spine t - kept a t) opening ++ rest t
unfolding rest written spine push kept
rest-push a tip = refl
rest-push a (node l m r) =
    pushed (λ k t. rest t ≡ closing ∷ replicate (suc (spine l) - k) opening ++ (rest l ++ closing ∷ written r)) a l m r
    (λ _. rw (sub-zero, written-rest l, append_assoc))
    (λ _. rw (rest-push a l, suc-sub-suc, append_assoc))

-- the entries on the spine rise strictly, from b on
unfoldable pub Rises : ℕ → Tree → Type 0
Rises b tip = Unit
Rises b (node l m r) = (b ≤ m) × Rises (suc m) l

rises-push : (a b : ℕ) (t : Tree) → b ≤ a → Rises b t → Rises b (push a t)
unfolding Rises push
rises-push a b tip h s = (h, tt)
rises-push a b (node l m r) h s =
    pushed (λ k t. Rises b t) a l m r (λ _. (h, tt)) (λ g. (s.0, rises-push a (suc m) l g s.1))

pub rises : (c : List ℕ) → Rises 0 (tree_of c)
unfolding Rises tree_of
rises [] = tt
rises (a ∷ c) = rises-push a 0 (tree_of c) zero-le (rises c)

-- f 0, f 1, .. are the entries on the spine, from the root on
unfoldable pub Lies : (ℕ → ℕ) → Tree → Type 0
Lies f tip = Unit
Lies f (node l m r) = (f 0 ≡ m) × Lies (λ j. f (suc j)) l

pub lies_push : (a : ℕ) (t : Tree) (f g : ℕ → ℕ) → Lies f t → ((j : ℕ) → j < kept a t → g j ≡ f j) → g (kept a t) ≡ a → Lies g (push a t)
unfolding Lies push kept
lies_push a tip f g s old new = (new, tt)
lies_push a (node l m r) f g s old new =
    pushed (λ k t. ((j : ℕ) → j < k → g j ≡ f j) → g k ≡ a → Lies g t) a l m r (λ _ _ new'. (new', tt))
    (λ _ old' new'. (old' 0 (omega arith) ∙ s.0, lies_push a l (λ j. f (suc j)) (λ j. g (suc j)) s.1 (λ j h. old' (suc j) (omega arith)) new'))
    old
    new

floor : (b : ℕ) (t : Tree) (f : ℕ → ℕ) → Rises b t → Lies f t → (j : ℕ) → j < spine t → b ≤ f j
unfolding Rises Lies spine
floor b tip f s e j h = absurd (omega arith)
floor b (node l m r) f s e zero h = omega arith
floor b (node l m r) f s e (suc j) h = omega (arith, floor (suc m) l (λ k. f (suc k)) s.1 e.1 j (omega arith))

-- a search from the spine's end finds them: behind k no entry is below a, and the one before is
pub kept_is : (a b : ℕ) (t : Tree) (f : ℕ → ℕ) (k : ℕ) → Rises b t → Lies f t → k ≤ spine t
    → ((j : ℕ) → k ≤ j → j < spine t → a ≤ f j) → ((j : ℕ) → suc j ≡ k → f j < a) → k ≡ kept a t
unfolding Rises Lies spine kept
kept_is a b tip f k s e le popped stays = omega arith
kept_is a b (node l m r) f zero s e le popped stays =
    pushed (λ k t. 0 ≡ k) a l m r (λ _. refl) (λ g. absurd (omega (arith, popped 0 zero-le (omega arith))))
kept_is a b (node l m r) f (suc k) s e le popped stays =
    pushed (λ j t. suc k ≡ j) a l m r
    (λ g. absurd (omega (arith, stays k refl, floor m (node l m r) f (le_refl m, s.1) e k le)))
    (λ _. ap suc (kept_is a (suc m) l (λ j. f (suc j)) k s.1 e.1 (omega arith) (λ j h g. popped (suc j) (omega arith) (omega arith)) (λ j h. stays (suc j) (ap suc h))))
