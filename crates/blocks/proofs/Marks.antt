-- The byte of a word in which a closing stands, by the sums: those that are at most k keep a bit when they are taken from 128 + k.
-- Assumes nothing.
use mathlib.Core.Path.{◌≡◌, refl, ◌∙◌}
use Prim.Native.Nat.{ℕ, zero, suc, ◌+◌, ◌-◌, ◌*◌, ◌/◌, ◌%◌, ◌^◌, ◌≤◌, ◌<◌, zero-le}
use native.Mathlib.Decide.{dec_lt}
use native.Mathlib.Omega.{arith}
use mathlib.Core.Bool.{Bool, true, false, cond}
use borrow.Author.Tests.{leb-true, leb-false, le-leb, lt-leb}
use lib.Bits.{bit_and}
use lib.Count.{count_leading_zeros, leading_unique}
use lib.Dec.{leb, eqb, eqb→eq, lit<}
use lib.Pow.{pow-add}
use Rattle.rules.specs.Excess.{closings}
use Rattle.rules.specs.Bytes.{low_bits}
use Rattle.rules.proofs.Every.{below_at}
use Rattle.blocks.specs.Select.{joined, sum_at}
use Rattle.blocks.proofs.Bits.{closings_few}
use Rattle.blocks.proofs.Lanes.{joined_same, joined_sub, joined_and}
use Rattle.blocks.proofs.Sums.{sum_next, sum_few, sums_before}

-- the highest bit of 128 + k - v
marked : ℕ → ℕ → ℕ
marked k v = cond (leb v k) 128 0

high_bit : (v : ℕ) → v < 256 → bit_and v 128 ≡ marked v 128
unfolding marked
high_bit v h =
    eqb→eq (bit_and v 128) (cond (leb 128 v) 128 0) (below_at 256 (λ v. eqb (bit_and v 128) (cond (leb 128 v) 128 0)) tt v h)

marked_is : (k v : ℕ) → k < 64 → v ≤ 64 → bit_and (128 + k - v) 128 ≡ marked k v
unfolding marked
marked_is k v few h = by (leb v k) refl
  where
    by : (b : Bool) → leb v k ≡ b → bit_and (128 + k - v) 128 ≡ cond (leb v k) 128 0
    by true e =
        let l = leb-true v k e in
        rw e (high_bit (128 + k - v) (omega arith) ∙ rw (le-leb 128 (128 + k - v) (omega arith)))
    by false e =
        let l = leb-false v k e in
        rw e (high_bit (128 + k - v) (omega arith) ∙ rw (lt-leb 128 (128 + k - v) (omega arith)))

record Rising (a : ℕ → ℕ) : Type 0 where
  pub rising : (j : ℕ) → a j ≤ a (suc j)

next : {a : ℕ → ℕ} → Rising a → Rising (λ j. a (suc j))
next r = record { rising = λ j. r.rising (suc j) }

none_marked : (k n : ℕ) (a : ℕ → ℕ) → Rising a → k < a 0 → joined n (λ j. marked k (a j)) ≡ 0
unfolding joined marked
none_marked k zero a r h = refl
none_marked k (suc n) a r h =
    let up = r.rising 0 in
    rw (lt-leb (a 0) k h, none_marked k n (λ j. a (suc j)) (next r) (omega arith))

-- the first d are at most k, and no more
record Found (k n : ℕ) (a : ℕ → ℕ) : Type 0 where
  pub d : ℕ
  pub upto : d ≤ n
  pub small : joined n (λ j. marked k (a j)) < 2 ^ (8 * d)
  pub large : 2 ^ (8 * d) ≤ 2 * joined n (λ j. marked k (a j)) + 1
  pub passed : (j : ℕ) → suc j ≡ d → a j ≤ k
  pub ahead : d < n → k < a d

found : (k n : ℕ) (a : ℕ → ℕ) → Rising a → Found k n a
unfolding joined marked
found k zero a r =
    record {
      d = 0;
      upto = omega arith;
      small = omega arith;
      large = omega arith;
      passed = λ j e. absurd (omega arith);
      ahead = λ l. absurd (omega arith);
    }
found k (suc n) a r = by (leb (a 0) k) refl (found k n (λ j. a (suc j)) (next r))
  where
    by : (b : Bool) → leb (a 0) k ≡ b → Found k n (λ j. a (suc j)) → Found k (suc n) a
    by true t w =
        let e : 8 + 8 * w.d ≡ 8 * suc w.d = omega arith in
        let p : 2 ^ (8 * suc w.d) ≡ 256 * 2 ^ (8 * w.d) = rw e at (pow-add 2 8 (8 * w.d)) in
        record {
          d = suc w.d;
          upto = omega (arith, w.upto);
          small = rw t (omega (arith, w.small));
          large = rw t (omega (arith, w.large));
          passed = passed t w;
          ahead = λ l. w.ahead (omega arith);
        }
      where
        passed : leb (a 0) k ≡ true → (w : Found k n (λ j. a (suc j))) → (j : ℕ) → suc j ≡ suc w.d → a j ≤ k
        passed t w zero e = leb-true (a 0) k t
        passed t w (suc j) e = w.passed j (omega arith)
    by false t w =
        let l = leb-false (a 0) k t in
        let up = r.rising 0 in
        let z = none_marked k n (λ j. a (suc j)) (next r) (omega arith) in
        record {
          d = 0;
          upto = omega arith;
          small = rw (t, z) (omega arith);
          large = rw (t, z) (omega arith);
          passed = λ j e. absurd (omega arith);
          ahead = λ m. l;
        }

-- ---- the byte in which closing k stands, as the code works it out

abbrev pub marks : ℕ → ℕ → ℕ
marks s k = bit_and (0x0101_0101_0101_0101 * k + 0x8080_8080_8080_8080 - s) 0x8080_8080_8080_8080

abbrev pub start : ℕ → ℕ → ℕ
start s k = 64 - count_leading_zeros 64 (marks s k)

abbrev pub before : ℕ → ℕ → ℕ
before s k = s * 256 % 2 ^ 64 / 2 ^ start s k % 256

pub record Narrows (s x k : ℕ) : Type 0 where
  pub few : k < 64
  pub room : s ≤ 0x0101_0101_0101_0101 * k + 0x8080_8080_8080_8080
  pub within : start s k + 8 ≤ 64
  pub counted : before s k ≡ closings (low_bits (start s k) x)
  pub passed : closings (low_bits (start s k) x) ≤ k
  pub ahead : k < closings (low_bits (start s k + 8) x)

all_equal : (m : ℕ) → joined 8 (λ j. m) ≡ 0x0101_0101_0101_0101 * m
unfolding joined
all_equal m = omega arith

module _ (x k : ℕ) (among : k < closings (low_bits 64 x)) where
  narrow : k < 64
  narrow = omega (arith, closings_few 64 x)

  sums : ℕ
  sums = joined 8 (sum_at x)

  left : ℕ
  left = joined 8 (λ j. 128 + k - sum_at x j)

  room : left + sums ≡ 0x0101_0101_0101_0101 * k + 0x8080_8080_8080_8080
  unfolding left sums
  room =
      joined_sub 8 (λ j. 128 + k) (sum_at x) (λ j h. omega (arith, sum_few x j h)) ∙ all_equal (128 + k) ∙ omega arith

  marks_are : marks sums k ≡ joined 8 (λ j. marked k (sum_at x j))
  unfolding left sums
  marks_are =
      let e : 0x0101_0101_0101_0101 * k + 0x8080_8080_8080_8080 - sums ≡ left = omega (arith, room) in
      let m : joined 8 (λ j. 128) ≡ 0x8080_8080_8080_8080 = all_equal 128 in
      rw (e, ← m) (joined_and 8 (λ j. 128 + k - sum_at x j) 128 (record { few = λ j h. omega (arith, narrow) }) (lit< tt))
      ∙ joined_same 8 (λ j. bit_and (128 + k - sum_at x j) 128) (λ j. marked k (sum_at x j))
      (λ j h. marked_is k (sum_at x j) narrow (sum_few x j h))

  first : Found k 8 (sum_at x)
  first = found k 8 (sum_at x) (record { rising = λ j. omega (arith, sum_next x j) })

  first_passed : (d : ℕ) → ((j : ℕ) → suc j ≡ d → sum_at x j ≤ k) → closings (low_bits (8 * d) x) ≤ k
  unfolding low_bits closings
  first_passed zero h = zero-le
  first_passed (suc j) h = h j refl

  not_all : first.d < 8
  not_all = by (dec_lt first.d 8)
    where
      by : Dec (first.d < 8) → first.d < 8
      by (yes y) = y
      by (no n) =
          let e : first.d ≡ 8 = omega (arith, first.upto) in
          let p = first_passed first.d first.passed in
          let b : closings (low_bits 64 x) ≤ k = rw e at p in
          absurd (omega arith)

  start_is : start sums k ≡ 8 * first.d
  start_is =
      let w = first in
      let z : 64 - 8 * w.d ≡ count_leading_zeros 64 (joined 8 (λ j. marked k (sum_at x j))) =
      leading_unique 64 _ (64 - 8 * w.d) (8 * w.d) (omega (arith, not_all)) w.small w.large in
      rw (marks_are, ← z) (omega (arith, not_all))

  narrows-sums : Narrows (joined 8 (sum_at x)) x k
  unfolding sums
  narrows-sums =
      let e : 8 * first.d + 8 ≡ 8 * suc first.d = omega arith in
      record {
        few = narrow;
        room = omega (arith, room);
        within = rw start_is (omega (arith, not_all));
        counted = rw start_is (sums_before x first.d not_all);
        passed = rw start_is (first_passed first.d first.passed);
        ahead = rw (start_is, e) (first.ahead not_all);
      }

-- as `to_byte` asks it
pub narrows : {s x k at : ℕ} → (s ≡ joined 8 (sum_at x)) × (k < closings (low_bits 64 x)) × (at ≤ 1048576) → Narrows s x k
narrows {s} {x} {k} {at} (e, h, l) = rw e (narrows-sums x k h)
