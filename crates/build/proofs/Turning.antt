-- The pass over the column, an entry a turn from the right: the stack is the left spine of the tree of the entries passed, and all of the
-- tree's parentheses are written but the spine's openings. Assumes nothing.
use mathlib.Core.Path.{◌≡◌, ap, ◌∙◌}
use Prim.Native.Nat.{ℕ, suc, ◌+◌, ◌-◌, ◌*◌, ◌%◌, ◌≤◌, ◌<◌}
use native.Mathlib.Nat.{sub_self, sub-zero}
use native.Mathlib.Numerals.{add-one}
use native.Mathlib.Omega.{arith}
use mathlib.Core.List.{List, [], ◌∷◌, ◌++◌}
use borrow.Author.Count.{below_more}
use lib.Arith.{le-zero}
use lib.ListN.{length, drop, get_or, set, replicate, length-set, length-replicate}
use lib.Seq.{drop-cons, drop-length, take-nil, get_or-set_same, get_or-set_other}
use Rattle.rules.specs.Shape.{opening, closing}
use Rattle.rules.specs.Bytes.{most, bits, bytes_of, bytes_for}
use Rattle.theory.proofs.Tree.{Tree, push, tree_of, spine}
use Rattle.theory.proofs.Spine.{rest, written-rest, kept, spine-push, rest-push, rises, Lies, lies_push, kept_is}
use Rattle.theory.proofs.Ordered.{shape_tree}
use Rattle.std.proofs.Common.{MutBor}
use Rattle.build.specs.declared.pen.Pen.{Pen}
use Rattle.build.specs.declared.spine.Spine.{Spine}
use Rattle.build.specs.Body.{Taken, Bodied}
use Rattle.build.specs.Stack.{entry_at, Stacked, Keeps}
use Rattle.build.specs.Writes.{Penned, Writes}

-- the entries from i on had their turns: their tree's left spine is on the stack, and the rest of its parentheses is written. What is still
-- to be written has room: an opening and a closing for each entry to come, and the openings of the spine.
pub record Turned (c : List ℕ) (p : Pen) (q : Spine) (i : ℕ) : Type 0 where
  pub few : length c ≤ most
  pub height : q.height ≡ spine (tree_of (drop i c))
  pub low : q.height + i ≤ length c
  pub lies : Lies (entry_at c q.places.now) (tree_of (drop i c))
  pub stack : Stacked c q
  pub penned : Penned p (rest (tree_of (drop i c)))
  pub room : 8 * p.left ≡ p.held + (2 * i + q.height)
  pub work : length q.places.now ≡ length c
  pub output : length p.body.now ≡ bytes_for (length c)

pub none_turned : (c : List ℕ) (o w : MutBor (List ℕ)) → Taken c w.now o.now
    → Turned c (record { body = o; left = length o.now; held = (8 - 2 * (length c % 4)) % 8; acc = 0 }) (record { places = w; height = 0; top = 0 }) (length c)
unfolding tree_of spine rest Lies bits bytes_of
none_turned c o w taken =
    record {
      few = taken.few;
      height = rw drop-length;
      low = omega arith;
      lies = rw drop-length tt;
      stack = record { fits = omega arith; places = λ j l. absurd (omega arith); last = λ j e. absurd (omega arith) };
      penned = rw drop-length (record {
        few = omega arith;
        within = omega arith;
        holds = rw take-nil;
        bytes = rw (sub_self, drop-length);
      });
      room = omega (arith, taken.output);
      work = taken.work;
      output = taken.output;
    }

-- a turn: the tree gets one more entry
pub one-turned : {c : List ℕ} {p p' p'' : Pen} {q q' : Spine} {i k : ℕ}
    → Turned c p q i → 0 < i → Keeps c q (get_or c (i - 1) 0) k → Writes (replicate (q.height - k) opening) p p' → Writes (closing ∷ []) p' p''
    → q'.places.now ≡ set q.places.now k (i - 1) → q'.height ≡ k + 1 → q'.top ≡ get_or c (i - 1) 0 → Turned c p'' q' (i - 1)
unfolding tree_of
one-turned {c} {p} {p'} {p''} {q} {q'} {i} {k} u some keeps opened closed stored higher top =
    let a : ℕ = get_or c (i - 1) 0 in
    let t : Tree = tree_of (drop i c) in
    let w : List ℕ = q.places.now in
    let next : suc (i - 1) ≡ i = omega arith in
    let tree : tree_of (drop (i - 1) c) ≡ push a t = rw (drop-cons c (i - 1) 0 (omega arith)) (ap (λ (n : ℕ). push a (tree_of (drop n c))) next) in
    let is : k ≡ kept a t = kept_is a 0 t (entry_at c w) k (rises (drop i c)) u.lies (omega (arith, u.height, keeps.within)) (λ j g l. keeps.popped j g (rw u.height l)) keeps.stays in
    let new : get_or (set w k (i - 1)) k 0 ≡ i - 1 = get_or-set_same w k (i - 1) 0 (omega arith) in
    let old : (j : ℕ) → j < k → get_or (set w k (i - 1)) j 0 ≡ get_or w j 0 = λ j l. get_or-set_other w k j (i - 1) 0 (omega arith) in
    let run : length (replicate (q.height - k) opening) ≡ q.height - k = length-replicate (q.height - k) opening in
    record {
      few = u.few;
      height = rw (higher, tree, spine-push, ← is, add-one);
      low = omega (arith, keeps.within, u.low);
      lies = rw (stored, tree) (lies_push a t (entry_at c w) (entry_at c (set w k (i - 1))) u.lies (λ j l. ap (λ (n : ℕ). get_or c n 0) (old j (rw is l))) (rw (← is, new)));
      stack = record {
        fits = rw (higher, stored, length-set) (omega (arith, keeps.within));
        places = rw (higher, stored) (below_more _ k (λ j l. rw (old j l) (u.stack.places j (omega (arith, keeps.within)))) (rw new (omega arith)));
        last = λ j e. let at-k : j ≡ k = omega arith in rw (at-k, stored, top, new);
      };
      penned = rw (tree, rest-push, ← is, ← u.height) (closed.front (opened.front u.penned));
      room = omega (arith, opened.room, closed.room, u.room);
      work = rw (stored, length-set w k (i - 1)) u.work;
      output = closed.same ∙ opened.same ∙ u.output;
    }

-- the spine's openings make the parentheses whole
pub all_turned : {c o : List ℕ} {p p' : Pen} {q : Spine} {i : ℕ} → Turned c p q i → i ≤ 0 → Writes (replicate q.height opening) p p' → o ≡ p'.body.now → Bodied c o
all_turned {c} {o} {p} {p'} {q} {i} v le opened output =
    let u : Turned c p q 0 = rw (le-zero le) at v in
    let run : length (replicate q.height opening) ≡ q.height = length-replicate q.height opening in
    let whole : Penned p' (replicate q.height opening ++ rest (tree_of c)) = opened.front u.penned in
    let done : p'.left ≡ 0 = omega arith in
    let none : p'.held ≡ 0 = omega arith in
    let size : length p'.body.now ≡ bytes_for (length c) = opened.same ∙ u.output in
    record { body = rw (output, shape_tree, written-rest, ← u.height) (rw (done, none, sub-zero, size) at whole.bytes) }
