-- The climb from two blocks to where they meet: the keys' smallest is the leftmost of the nodes passed with the smallest number.
-- Assumes nothing.
use mathlib.Core.Path.{◌≡◌, refl, ap, sym, ◌∙◌}
use mathlib.Core.Logic.{⊎_elim}
use Prim.Native.Nat.{ℕ, min, ◌+◌, ◌-◌, ◌*◌, ◌/◌, ◌%◌, ◌^◌, ◌≤◌, ◌<◌}
use native.Mathlib.Nat.{le_trans, mul-le-mul_right, min-le_left, pow-succ', div-eq_of_lt-le}
use native.Mathlib.Numerals.{add-one}
use native.Mathlib.Omega.{arith}
use mathlib.Core.List.{List}
use borrow.Author.Tests.{lt-ltb, le-ltb}
use Rattle.std.proofs.lemmas.Bool.{cases_lt}
use Rattle.tree.specs.declared.Best.{Best}
use Rattle.tree.specs.Tree.{at, Within, Under, Between}
use Rattle.tree.specs.Keys.{right_rank, right_level, left_key, right_key, left_of, right_of, best_of}
use Rattle.tree.proofs.Nodes.{wider, parent}
use Rattle.tree.proofs.Beside.{Lowest, alone, join_left, join_right}

pub best_left : (a b k : ℕ) → k % 16 < 8 → best_of a b k ≡ left_of a k
best_left a b k p = rw (lt-ltb (k % 16) 8 p)

pub best_right : (a b k : ℕ) → 8 ≤ k % 16 → best_of a b k ≡ right_of b k
best_right a b k p = rw (le-ltb (k % 16) 8 p)

best_low : (a b k : ℕ) → (best_of a b k).low ≡ k / 16
best_low a b k =
    ⊎_elim
    (λ p. ap (λ (x : Best). x.low) (best_left a b k p))
    (λ p. ap (λ (x : Best). x.low) (best_right a b k p))
    (cases_lt (k % 16) 8)

-- the smaller of two keys, the left one's rank not the greater
join : {t : List ℕ} (a b k j : ℕ) {f m e : ℕ} → f ≤ m → m ≤ e → k % 16 ≤ j % 16
    → Lowest t f m (best_of a b k) → Lowest t m e (best_of a b j) → Lowest t f e (best_of a b (min k j))
join {t} a b k j {f} {m} {e} fm me rank left right =
    let l = best_low a b k in
    let r = best_low a b j in
    ⊎_elim
    (λ p. let e : min k j ≡ j = omega arith in rw e (join_right fm me left right (omega arith)))
    (λ p. let e : min k j ≡ k = omega arith in rw e (join_left fm me left right (omega arith)))
    (cases_lt j k)

-- what the two leaves have passed below nodes l and r, h levels up. A rank is that of a level below h; at level 0 nothing is passed yet.
pub record Climbing (t : List ℕ) (a b l r h best : ℕ) : Type 0 where
  pub over_a : Under l h a
  pub over_b : Under r h b
  pub apart : l < r
  pub left : ℕ
  pub right : ℕ
  pub left_rank : left % 16 ≤ h - 1
  pub right_ranked : right_rank (h - 1) ≤ right % 16
  pub on_left : Lowest t (257 + a) ((l + 1) * 2 ^ h) (best_of a b left)
  pub on_right : Lowest t (r * 2 ^ h) (256 + b) (best_of a b right)
  pub bound : best ≤ 1048576
  pub lower : best ≡ min left right

-- at the leaves nothing is passed
pub climb_starts : (t : List ℕ) (a b : ℕ) → a < b → Climbing t a b (256 + a) (256 + b) 0 1048576
climb_starts t a b p =
    record {
      over_a = record { first = omega arith; last = omega arith };
      over_b = record { first = omega arith; last = omega arith };
      apart = omega arith;
      left = 1048576;
      right = 1048591;
      left_rank = omega arith;
      right_ranked = omega arith;
      on_left = record { none = λ _. omega arith; some = λ q. absurd (omega arith) };
      on_right = record { none = λ _. omega arith; some = λ q. absurd (omega arith) };
      bound = omega arith;
      lower = refl;
    }

-- under a node between the two stand only blocks between
between : {a b l r h : ℕ} (v : ℕ) → Under l h a → Under r h b → l < v → v < r → Within v h (257 + a) (256 + b)
between {a} {b} {l} {r} {h} v ua ub p q =
    let f = mul-le-mul_right (2 ^ h) p in
    let e = mul-le-mul_right (2 ^ h) q in
    record { first = omega (arith, ua.last); last = omega (arith, ub.first) }

-- what the key of a node that is passed stands for, from a and from b
passed_left : (a b l h x k : ℕ) → Under l h a → h ≤ 7 → k ≡ 16 * x + h → best_of a b k ≡ record { low = x; node = l + 1; level = h }
passed_left a b l h x k u p e =
    let low : k / 16 ≡ x = omega arith in
    let level : k % 16 ≡ h = omega arith in
    best_left a b k (omega arith) ∙ rw (low, level, div-eq_of_lt-le (2 ^ h) u.first u.last)

passed_right : (a b v h x k : ℕ) → Under (v + 1) h b → h ≤ 7 → k ≡ 16 * x + right_rank h → best_of a b k ≡ record { low = x; node = v; level = h }
passed_right a b v h x k u p e =
    let low : k / 16 ≡ x = omega arith in
    let level : right_level (k % 16) ≡ h = omega arith in
    let node : v + 1 - 1 ≡ v = omega arith in
    best_right a b k (omega arith) ∙ rw (low, level, div-eq_of_lt-le (2 ^ h) u.first u.last, node)

-- a node's first leaf is that of its left half, one level fewer
doubled : (q w h : ℕ) → 2 * q ≡ w → q * 2 ^ (h + 1) ≡ w * 2 ^ h
doubled q w h e = ap (λ (k : ℕ). q * 2 ^ k) (add-one h) ∙ rw (← e, pow-succ' 2 h) (omega arith)

carried : {t : List ℕ} {f f' e e' : ℕ} {b b' : Best} → f ≡ f' → e ≡ e' → b ≡ b' → Lowest t f' e' b' → Lowest t f e b
carried {t} {f} {f'} {e} {e'} {b} {b'} p q s w =
    rw (p, q, s) w

-- a node that is out stands for no leaf
out : {t : List ℕ} {f e : ℕ} (a b k : ℕ) → e ≡ f → 1048576 ≤ k → Lowest t f e (best_of a b k)
out a b k p l = record { none = λ _. omega (arith, best_low a b k); some = λ s. absurd (omega arith) }

-- what is passed at level h
module _ {a b l r h : ℕ} {t : List ℕ} (ua : Under l h a) (ub : Under r h b) (last : b ≤ 255) (level : h ≤ 7) (apart : l / 2 < r / 2) where
  node : (v : ℕ) → at t v ≤ 65535 → l < v → v < r → Lowest t (v * 2 ^ h) ((v + 1) * 2 ^ h) (record { low = at t v; node = v; level = h })
  node v small p q =
      alone v h (omega arith) small (wider (omega arith) (omega arith) (between v ua ub p q))

  pass_left : at t (l + 1 - l % 2) ≤ 65535 → Lowest t ((l + 1) * 2 ^ h) ((l / 2 + 1) * 2 ^ (h + 1)) (best_of a b (left_key t l h))
  pass_left small =
      ⊎_elim
      (λ (p : l % 2 < 1).
      let even : l + 1 - l % 2 ≡ l + 1 = omega arith in
      let same : at t (l + 1 - l % 2) ≡ at t (l + 1) = ap (at t) even in
      carried refl (doubled (l / 2 + 1) (l + 1 + 1) h (omega arith))
      (passed_left a b l h (at t (l + 1)) (left_key t l h) ua level (omega arith))
      (node (l + 1) (omega arith) (omega arith) (omega arith)))
      (λ (p : 1 ≤ l % 2). out a b (left_key t l h) (doubled (l / 2 + 1) (l + 1) h (omega arith)) (omega arith))
      (cases_lt (l % 2) 1)

  pass_right : at t (r - r % 2) ≤ 65535 → Lowest t (r / 2 * 2 ^ (h + 1)) (r * 2 ^ h) (best_of a b (right_key t r h))
  pass_right small =
      ⊎_elim
      (λ (p : r % 2 < 1). out a b (right_key t r h) (sym (doubled (r / 2) r h (omega arith))) (omega arith))
      (λ (p : 1 ≤ r % 2).
      let odd : r - r % 2 ≡ r - 1 = omega arith in
      let same : at t (r - r % 2) ≡ at t (r - 1) = ap (at t) odd in
      let next : r ≡ r - 1 + 1 = omega arith in
      let under = rw next at ub in
      carried (doubled (r / 2) (r - 1) h (omega arith)) (ap (λ (w : ℕ). w * 2 ^ h) next)
      (passed_right a b (r - 1) h (at t (r - 1)) (right_key t r h) under level (omega arith))
      (node (r - 1) (omega arith) (omega arith) (omega arith)))
      (cases_lt (r % 2) 1)

-- level by level the two sides widen
widens_left : (l h : ℕ) → (l + 1) * 2 ^ h ≤ (l / 2 + 1) * 2 ^ (h + 1)
widens_left l h = rw (doubled (l / 2 + 1) (2 * (l / 2 + 1)) h refl) (mul-le-mul_right (2 ^ h) (omega arith))

widens_right : (r h : ℕ) → r / 2 * 2 ^ (h + 1) ≤ r * 2 ^ h
widens_right r h = rw (doubled (r / 2) (2 * (r / 2)) h refl) (mul-le-mul_right (2 ^ h) (omega arith))

key_rank : (x k : ℕ) → k < 16 → (16 * x + k) % 16 ≡ k
key_rank x k p = omega arith

-- from b, what is passed later has the smaller rank
later : (h k : ℕ) → h ≤ 7 → right_rank (h - 1) ≤ k → right_rank h ≤ k
later h k p q = omega arith

lower_right : (x y h : ℕ) → h ≤ x % 16 → h ≤ y % 16 → h ≤ min x y % 16
lower_right x y h p q = omega arith

lower-both : (k l r x y : ℕ) → k ≡ min l r → min k (min x y) ≡ min (min l x) (min y r)
lower-both k l r x y e = omega arith

-- one level up
climb_next : {t : List ℕ} {a b l r h k : ℕ} → b ≤ 255 → h ≤ 7 → at t (l + 1 - l % 2) ≤ 65535 → at t (r - r % 2) ≤ 65535 → (l / 2 ≡ r / 2 → ⊥)
    → Climbing t a b l r h k → Climbing t a b (l / 2) (r / 2) (h + 1) (min k (min (left_key t l h) (right_key t r h)))
climb_next {t} {a} {b} {l} {r} {h} {k} last level left right unmet c =
    let p = c.apart in
    let apart : l / 2 < r / 2 = omega arith in
    let i = c.left_rank in
    let rank : right_key t r h % 16 ≡ right_rank h = key_rank _ (right_rank h) (omega arith) in
    let older : right_rank h ≤ c.right % 16 = later h (c.right % 16) level c.right_ranked in
    let up : h + 1 - 1 ≡ h = omega arith in
    let from : 257 + a ≤ (l + 1) * 2 ^ h = omega (arith, c.over_a.last) in
    record {
      over_a = parent c.over_a;
      over_b = parent c.over_b;
      apart = apart;
      left = min c.left (left_key t l h);
      right = min (right_key t r h) c.right;
      left_rank = omega arith;
      right_ranked = rw up (lower_right (right_key t r h) c.right (right_rank h) (omega arith) older);
      on_left =
          join a b c.left (left_key t l h) from (widens_left l h) (omega arith) c.on_left
          (pass_left c.over_a c.over_b last level apart left);
      on_right =
          join a b (right_key t r h) c.right (widens_right r h) c.over_b.first (omega arith)
          (pass_right c.over_a c.over_b last level apart right) c.on_right;
      bound = le_trans (min-le_left k _) c.bound;
      lower = lower-both k c.left c.right (left_key t l h) (right_key t r h) c.lower;
    }

pub climb_on : {t : List ℕ} {a b l r h k j : ℕ} → b ≤ 255 → h ≤ 7 → at t (l + 1 - l % 2) ≤ 65535 → at t (r - r % 2) ≤ 65535 → (l / 2 ≡ r / 2 → ⊥)
    → j ≡ min k (min (left_key t l h) (right_key t r h)) → Climbing t a b l r h k → Climbing t a b (l / 2) (r / 2) (h + 1) j
climb_on {t} {a} {b} {l} {r} {h} last level left right unmet is c =
    rw is (climb_next last level left right unmet c)

-- eight levels up is the root
all_met : {a b l r : ℕ} → a ≤ 255 → b ≤ 255 → Under l 8 a → Under r 8 b → l / 2 ≡ r / 2
all_met p q ua ub = omega arith

pub climb_met : {t : List ℕ} {a b l r h k : ℕ} → a < b → b ≤ 255 → h ≤ 8 → 8 ≤ h → Climbing t a b l r h k → l / 2 ≡ r / 2
climb_met {t} {a} {b} {l} {r} {h} p q level end c =
    let e : h ≡ 8 = omega arith in
    all_met (omega arith) q (rw e at c.over_a) (rw e at c.over_b)

-- where they have met the two sides are the whole
pub climb_ends : {t : List ℕ} {a b l r h k : ℕ} → h ≤ 8 → l / 2 ≡ r / 2 → Climbing t a b l r h k → Between t a b (best_of a b k)
climb_ends {t} {a} {b} {l} {r} {h} {k} level met c =
    let p = c.apart in
    let next : r ≡ l + 1 = omega arith in
    let i = c.left_rank in
    let j = c.right_ranked in
    let from : 257 + a ≤ (l + 1) * 2 ^ h = omega (arith, c.over_a.last) in
    let upto : (l + 1) * 2 ^ h ≤ 256 + b = rw next at c.over_b.first in
    let right = rw next at c.on_right in
    let both = join a b c.left c.right from upto (omega arith) c.on_left right in
    let best = rw (← c.lower) at both in
    record { none = λ e. omega (arith, best_low a b k, best.none (omega arith), c.bound); some = λ q. best.some (omega arith) }
