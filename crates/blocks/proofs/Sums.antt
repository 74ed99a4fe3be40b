-- Closings summed up in the bytes of a word: how the sums are made of counts, and what a byte of them says.
-- Assumes nothing.
use mathlib.Core.Path.{◌≡◌, ◌∙◌}
use Prim.Native.Nat.{ℕ, zero, suc, ◌+◌, ◌*◌, ◌/◌, ◌%◌, ◌^◌, ◌≤◌, ◌<◌}
use native.Mathlib.Nat.{div-one}
use native.Mathlib.Omega.{arith}
use lib.Dec.{lit≤}
use Rattle.rules.specs.Excess.{closings}
use Rattle.rules.specs.Bytes.{low_bits}
use Rattle.blocks.specs.Select.{joined, count_at, sum_at}
use Rattle.blocks.proofs.Bits.{closings_few, closings_add}
use Rattle.blocks.proofs.Lanes.{Few, joined_below, joined_at, with_before, few_before, add_before, shifted_at}

-- ---- made of counts

-- as the code works it out: each count with the one before it, then with two more, then with four more
abbrev pub once : ℕ → ℕ
once c = c + c * 256 % 2 ^ 64

abbrev pub twice : ℕ → ℕ
twice c = once c + once c * 65536 % 2 ^ 64

abbrev pub thrice : ℕ → ℕ
thrice c = twice c + twice c * 4294967296 % 2 ^ 64

pub sum_next : (x j : ℕ) → sum_at x (suc j) ≡ sum_at x j + count_at x (suc j)
sum_next x j =
    let e : 8 * suc j + 8 ≡ 8 * suc (suc j) = omega arith in
    rw e at (closings_add (8 * suc j) 8 x)

pub sum_few : (x j : ℕ) → j < 8 → sum_at x j ≤ 64
sum_few x j h = omega (arith, closings_few (8 * suc j) x)

-- all eight of them
sums_are : (x : ℕ) → joined 8 (with_before 4 (with_before 2 (with_before 1 (count_at x)))) ≡ joined 8 (sum_at x)
unfolding joined with_before
sums_are x =
    let first : sum_at x 0 ≡ count_at x 0 = rw (div-one x) in
    omega (arith, sum_next x 0, sum_next x 1, sum_next x 2, sum_next x 3, sum_next x 4, sum_next x 5, sum_next x 6)

bytes : (m : ℕ) (a : ℕ → ℕ) → Few 8 m a → m ≤ 255 → Few 8 255 a
bytes m a f l = record { few = λ j h. let g = f.few j h in omega arith }

pub record Summed (c s : ℕ) : Type 0 where
  pub once_fits : once c < 2 ^ 64
  pub twice_fits : twice c < 2 ^ 64
  pub fits : s < 2 ^ 64
  pub right : thrice c ≡ s

pub sums-made : (x : ℕ) → Summed (joined 8 (count_at x)) (joined 8 (sum_at x))
sums-made x =
    let a = count_at x in
    let b = with_before 1 a in
    let c = with_before 2 b in
    let d = with_before 4 c in
    let fa : Few 8 8 a = record { few = λ j h. closings_few 8 (x / 2 ^ (8 * j)) } in
    let fb : Few 8 16 b = few_before 1 8 8 a fa in
    let fc : Few 8 32 c = few_before 2 8 16 b fb in
    let fd : Few 8 64 d = few_before 4 8 32 c fc in
    let p : once (joined 8 a) ≡ joined 8 b = add_before 1 7 a (bytes 8 a fa (lit≤ tt)) in
    let q : twice (joined 8 a) ≡ joined 8 c = rw p (add_before 2 6 b (bytes 16 b fb (lit≤ tt))) in
    let r : thrice (joined 8 a) ≡ joined 8 d = rw q (add_before 4 4 c (bytes 32 c fc (lit≤ tt))) in
    record {
      once_fits = rw p (joined_below 8 b (bytes 16 b fb (lit≤ tt)));
      twice_fits = rw q (joined_below 8 c (bytes 32 c fc (lit≤ tt)));
      fits = rw (← (sums_are x)) (joined_below 8 d (bytes 64 d fd (lit≤ tt)));
      right = r ∙ sums_are x;
    }

-- ---- what a byte of the sums says

sums_few : (x : ℕ) → Few 8 255 (sum_at x)
sums_few x = record { few = λ j h. omega (arith, sum_few x j h) }

pub sums-total : (x s : ℕ) → s ≡ joined 8 (sum_at x) → s / 2 ^ 56 ≡ closings (low_bits 64 x)
sums-total x s e =
    let at : joined 8 (sum_at x) / 2 ^ 56 % 256 ≡ closings (low_bits 64 x) =
    joined_at 8 (sum_at x) 7 (sums_few x) (omega arith) in
    let below : joined 8 (sum_at x) < 2 ^ 64 = joined_below 8 (sum_at x) (sums_few x) in
    omega arith

-- and shifted up by a byte
pub sums_before : (x d : ℕ) → d < 8 → joined 8 (sum_at x) * 256 % 2 ^ 64 / 2 ^ (8 * d) % 256 ≡ closings (low_bits (8 * d) x)
unfolding low_bits closings
sums_before x zero h = omega arith
sums_before x (suc j) h = shifted_at 7 (sum_at x) j (sums_few x) (omega arith)
