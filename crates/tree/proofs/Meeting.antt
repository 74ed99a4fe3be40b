-- Where two blocks' leaves meet: the level from which on their numbers have the same bits, and the node there.
-- Assumes nothing.
use mathlib.Core.Path.{◌≡◌, ap, ap₂, sym, ◌∙◌}
use mathlib.Core.Logic.{⊎_elim}
use Prim.Native.Nat.{ℕ, ◌+◌, ◌-◌, ◌*◌, ◌/◌, ◌^◌, ◌≤◌, ◌<◌}
use native.Mathlib.Nat.{lt_trans, mul-le-mul_right, div-eq_of_lt, div-mul-le_self, lt-div-mul-add}
use native.Mathlib.Omega.{arith}
use mathlib.Core.List.{List}
use lib.Bits.{bit_xor, xor_shr, xor_self, xor_add_and, and_le_l, and_le_r}
use lib.Count.{count_leading_zeros, leading_length}
use lib.Dec.{lit<}
use lib.Pow.{pow_pos, pow_mono, pow-add}
use Rattle.std.proofs.lemmas.Bool.{cases_lt}
use Rattle.tree.specs.Tree.{at, Within, Under, Over}
use Rattle.tree.proofs.Nodes.{node-lowest}

xor_none : (x y : ℕ) → bit_xor x y ≡ 0 → x ≡ y
xor_none x y e = omega (arith, xor_add_and x y, and_le_l x y, and_le_r x y)

-- both leaves have the bit of 256, so that they differ below it
xor_leaves : (a b : ℕ) → a ≤ 255 → b ≤ 255 → bit_xor (256 + a) (256 + b) < 256
xor_leaves a b p q =
    let x : (256 + a) / 2 ^ 8 ≡ 1 = omega arith in
    let y : (256 + b) / 2 ^ 8 ≡ 1 = omega arith in
    let e : bit_xor (256 + a) (256 + b) / 2 ^ 8 ≡ 0 = xor_shr (256 + a) (256 + b) 8 ∙ ap₂ bit_xor x y ∙ xor_self 1 in
    omega arith

-- as `over` computes it
abbrev pub meeting : ℕ → ℕ → ℕ
meeting a b = 64 - count_leading_zeros 64 (bit_xor (256 + a) (256 + b))

pub record Meets (a b k : ℕ) : Type 0 where
  pub level : k ≤ 8
  pub node : (256 + a) / 2 ^ k ≡ (256 + b) / 2 ^ k

pub meets : (a b : ℕ) → a ≤ 255 → b ≤ 255 → Meets a b (meeting a b)
meets a b p q =
    let x = xor_leaves a b p q in
    let length = leading_length 64 (bit_xor (256 + a) (256 + b)) (lt_trans x (lit< tt)) in
    let k = length.0 in
    let is : k ≡ meeting a b = omega (arith, length.1) in
    let low : k ≤ 8 = ⊎_elim (λ s. omega arith) (λ s. absurd (omega (arith, pow_mono s, length.3))) (cases_lt k 9) in
    let node = xor_none ((256 + a) / 2 ^ k) ((256 + b) / 2 ^ k) (sym (xor_shr (256 + a) (256 + b) k) ∙ div-eq_of_lt length.2) in
    rw (← is) (record { level = low; node = node })

above : (k x : ℕ) → Under ((256 + x) / 2 ^ k) k x
above k x =
    record { first = div-mul-le_self (256 + x) (2 ^ k); last = omega (arith, lt-div-mul-add {a = 256 + x} (pow_pos k)) }

-- a node over a block, no more than eight levels up, is in the tree
in_tree : {v h x : ℕ} → Under v h x → x ≤ 255 → h ≤ 8 → Within v h 256 512
in_tree {v} {h} {x} u p l =
    let q = 2 ^ (8 - h) in
    let levels : 8 - h + h ≡ 8 = omega arith in
    let e : q * 2 ^ h ≡ 256 = sym (pow-add 2 (8 - h) h) ∙ ap (λ (k : ℕ). 2 ^ k) levels in
    record {
      first =
          ⊎_elim
          (λ s. absurd (omega (arith, mul-le-mul_right (2 ^ h) s, u.last)))
          (λ s. omega (arith, mul-le-mul_right (2 ^ h) s))
          (cases_lt v q);
      last =
          ⊎_elim
          (λ s. omega (arith, mul-le-mul_right (2 ^ h) s))
          (λ s. absurd (omega (arith, mul-le-mul_right (2 ^ h) s, u.first)))
          (cases_lt v (2 * q));
    }

-- the number of the node where they meet
pub over_both : {t : List ℕ} {r k : ℕ} (a b : ℕ) → a ≤ 255 → b ≤ 255 → Meets a b k → r ≡ at t ((256 + a) / 2 ^ k) → r ≤ 65535
    → Over t a b r
over_both {t} {r} {k} a b p q m e n =
    let v = (256 + a) / 2 ^ k in
    let ua = above k a in
    let ub : Under v k b = rw m.node (above k b) in
    let w = in_tree ua p m.level in
    record {
      node = v;
      level = k;
      within = w;
      over_a = ua;
      over_b = ub;
      number = e;
      bound = n;
      lowest = λ H x f l.
          let u : Under v k x = record { first = omega (arith, ua.first); last = omega (arith, ub.last) } in
          omega (arith, node-lowest H k v w u);
    }
