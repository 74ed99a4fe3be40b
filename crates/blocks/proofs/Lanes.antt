-- Numbers by their bytes: what is done to a number is done to each byte where no byte reaches into the next.
-- Assumes nothing.
use mathlib.Core.Path.{◌≡◌, refl, sym, ◌∙◌}
use Prim.Native.Nat.{ℕ, zero, suc, ◌+◌, ◌-◌, ◌*◌, ◌/◌, ◌%◌, ◌^◌, ◌≤◌, ◌<◌}
use native.Mathlib.Nat.{zero-add, suc-add, add_comm, one-mul, mul_comm, mul_assoc, mul-add, mul_left_comm, mul-lt-mul_of_pos_left}
use native.Mathlib.Nat.{mul-div_cancel_left, add-mul-mod_self_left, mod-eq_of_lt, pow-zero, pow-succ'}
use native.Mathlib.Omega.{arith}
use lib.Bits.{bit_and, and_block, and_zero_l}
use lib.Pow.{pow-add, shr-shr}
use Rattle.blocks.specs.Select.{joined}

-- none of the first n is above m
pub record Few (n m : ℕ) (a : ℕ → ℕ) : Type 0 where
  pub few : (j : ℕ) → j < n → a j ≤ m

few_next : {n m : ℕ} (a : ℕ → ℕ) → Few (suc n) m a → Few n m (λ j. a (suc j))
few_next a f = record { few = λ j h. f.few (suc j) (omega arith) }

few_part : {n m : ℕ} (k : ℕ) (a : ℕ → ℕ) → k ≤ n → Few n m a → Few k m a
few_part k a l f = record { few = λ j h. f.few j (omega arith) }

pub joined_below : (n : ℕ) (a : ℕ → ℕ) → Few n 255 a → joined n a < 256 ^ n
unfolding joined
joined_below zero a f = omega arith
joined_below (suc n) a f =
    rw (pow-succ' 256 n) (omega (arith, f.few 0 (omega arith), joined_below n (λ j. a (suc j)) (few_next a f)))

pub joined_same : (n : ℕ) (a b : ℕ → ℕ) → ((j : ℕ) → j < n → a j ≡ b j) → joined n a ≡ joined n b
unfolding joined
joined_same zero a b h = refl
joined_same (suc n) a b h =
    rw (h 0 (omega arith), joined_same n (λ j. a (suc j)) (λ j. b (suc j)) (λ j l. h (suc j) (omega arith)))

pub joined_add : (n : ℕ) (a b : ℕ → ℕ) → joined n a + joined n b ≡ joined n (λ j. a j + b j)
unfolding joined
joined_add zero a b = refl
joined_add (suc n) a b = omega (arith, joined_add n (λ j. a (suc j)) (λ j. b (suc j)))

pub joined_sub : (n : ℕ) (a b : ℕ → ℕ) → ((j : ℕ) → j < n → b j ≤ a j) → joined n (λ j. a j - b j) + joined n b ≡ joined n a
joined_sub n a b h =
    joined_add n (λ j. a j - b j) b ∙ joined_same n (λ j. a j - b j + b j) a (λ j l. let g = h j l in omega arith)

joined_mul : (p n : ℕ) (a : ℕ → ℕ) → p * joined n a ≡ joined n (λ j. p * a j)
unfolding joined
joined_mul p zero a = omega arith
joined_mul p (suc n) a =
    let rest = joined n (λ j. a (suc j)) in
    rw (mul-add p (a 0) (256 * rest), mul_left_comm p 256 rest, joined_mul p n (λ j. a (suc j)))

-- the bits of one mask in each byte
pub joined_and : (n : ℕ) (a : ℕ → ℕ) (m : ℕ) → Few n 255 a → m < 256
    → bit_and (joined n a) (joined n (λ j. m)) ≡ joined n (λ j. bit_and (a j) m)
unfolding joined
joined_and zero a m f l = and_zero_l 0
joined_and (suc n) a m f l =
    let u = joined n (λ j. a (suc j)) in
    let v = joined n (λ j. m) in
    let e : a 0 + 256 * u ≡ u * 2 ^ 8 + a 0 = omega arith in
    let g : m + 256 * v ≡ v * 2 ^ 8 + m = omega arith in
    let low = f.few 0 (omega arith) in
    let h : bit_and (u * 2 ^ 8 + a 0) (v * 2 ^ 8 + m) ≡ bit_and u v * 2 ^ 8 + bit_and (a 0) m =
    and_block 8 u v (a 0) m (omega arith) l in
    rw (e, g, h, joined_and n (λ j. a (suc j)) m (few_next a f) l) (omega arith)

-- the same shifted down by as many bits as nothing is lost by
pub joined_shr : (n p : ℕ) (a : ℕ → ℕ) → 0 < p → ((j : ℕ) → j < n → p * (a j / p) ≡ a j)
    → joined n a / p ≡ joined n (λ j. a j / p)
joined_shr n p a pos h =
    let e : p * joined n (λ j. a j / p) ≡ joined n a =
    joined_mul p n (λ j. a j / p) ∙ joined_same n (λ j. p * (a j / p)) a h in
    rw (← e) (mul-div_cancel_left (joined n (λ j. a j / p)) pos)

-- ---- byte j

-- byte j + 1 is byte j of what is above the lowest
down : (x j : ℕ) → x / 2 ^ (8 * suc j) ≡ x / 256 / 2 ^ (8 * j)
down x j =
    let e : 8 * suc j ≡ 8 + 8 * j = omega arith in
    rw e (sym (shr-shr x 8 (8 * j)))

pub joined_at : (n : ℕ) (a : ℕ → ℕ) (j : ℕ) → Few n 255 a → j < n → joined n a / 2 ^ (8 * j) % 256 ≡ a j
unfolding joined
joined_at zero a j f l = absurd (omega arith)
joined_at (suc n) a zero f l = omega (arith, f.few 0 (omega arith))
joined_at (suc n) a (suc j) f l =
    let rest = joined n (λ j. a (suc j)) in
    let low = f.few 0 (omega arith) in
    let e : (a 0 + 256 * rest) / 256 ≡ rest = omega arith in
    rw (down (a 0 + 256 * rest) j, e) (joined_at n (λ j. a (suc j)) j (few_next a f) (omega arith))

abbrev pub byte_at : ℕ → ℕ → ℕ
byte_at x j = x / 2 ^ (8 * j) % 256

pub joined_bytes : (n x : ℕ) → x < 256 ^ n → joined n (byte_at x) ≡ x
unfolding joined
joined_bytes zero x h = let g : x < 1 = h in omega arith
joined_bytes (suc n) x h =
    let g : x < 256 * 256 ^ n = rw (pow-succ' 256 n) at h in
    let e : joined n (λ j. byte_at x (suc j)) ≡ joined n (byte_at (x / 256)) =
    joined_same n (λ j. byte_at x (suc j)) (byte_at (x / 256)) (λ j l. rw (down x j)) in
    omega (arith, joined_bytes n (x / 256) (omega arith))

-- ---- shifted up by k bytes and added

-- a and, from place k on, b
behind : ℕ → (ℕ → ℕ) → (ℕ → ℕ) → ℕ → ℕ
behind zero a b j = a j + b j
behind (suc k) a b zero = a 0
behind (suc k) a b (suc j) = behind k (λ j. a (suc j)) b j

-- each with the one k places before it
unfoldable pub with_before : ℕ → (ℕ → ℕ) → ℕ → ℕ
unfolding behind
with_before k a = behind k a a

few_behind : (k n m : ℕ) (a b : ℕ → ℕ) → Few n m a → Few n m b → (j : ℕ) → j < n → behind k a b j ≤ m + m
unfolding behind
few_behind zero n m a b f g j h = omega (arith, f.few j h, g.few j h)
few_behind (suc k) n m a b f g zero h = omega (arith, f.few 0 h)
few_behind (suc k) zero m a b f g (suc j) h = absurd (omega arith)
few_behind (suc k) (suc n) m a b f g (suc j) h =
    few_behind k n m (λ j. a (suc j)) b (few_next a f) (few_part n b (omega arith) g) j (omega arith)

pub few_before : (k n m : ℕ) (a : ℕ → ℕ) → Few n m a → Few n (m + m) (with_before k a)
unfolding with_before
few_before k n m a f = record { few = few_behind k n m a a f f }

joined_behind : (k n : ℕ) (a b : ℕ → ℕ) → joined (k + n) a + 256 ^ k * joined n b ≡ joined (k + n) (behind k a b)
unfolding joined behind
joined_behind zero n a b = rw (zero-add n, pow-zero 256, one-mul (joined n b)) (joined_add n a b)
joined_behind (suc k) n a b =
    let e : 256 ^ suc k * joined n b ≡ 256 * (256 ^ k * joined n b) =
    rw (pow-succ' 256 k) (mul_assoc 256 (256 ^ k) (joined n b)) in
    rw (suc-add k n, e) (omega (arith, joined_behind k n (λ j. a (suc j)) b))

-- the lowest n bytes, and what is above them
cut : (n k : ℕ) (a : ℕ → ℕ) → (h : ℕ) × (joined (n + k) a ≡ joined n a + 256 ^ n * h)
unfolding joined
cut zero k a = (joined k a, rw (zero-add k, pow-zero 256) (omega arith))
cut (suc n) k a =
    let (h, e) = cut n k (λ j. a (suc j)) in
    (h, rw (suc-add n k, pow-succ' 256 n, mul_assoc 256 (256 ^ n) h) (omega arith))

-- what is shifted out at the top is lost
joined_shl : (k n : ℕ) (a : ℕ → ℕ) → Few (k + n) 255 a → joined (k + n) a * 256 ^ k % 256 ^ (k + n) ≡ 256 ^ k * joined n a
joined_shl k n a f =
    let low = joined n a in
    let up = 256 ^ k in
    let end = 256 ^ n in
    let (h, e) = cut n k a in
    let g : joined (k + n) a * up ≡ up * low + up * end * h =
    rw (add_comm k n, e, mul_comm (low + end * h) up, mul-add up low (end * h), mul_assoc up end h) in
    let pos : 0 < up = omega (arith, joined_below k a (few_part k a (omega arith) f)) in
    rw (g, pow-add 256 k n, add-mul-mod_self_left (up * low) (up * end) h)
    (mod-eq_of_lt (mul-lt-mul_of_pos_left (joined_below n a (few_part n a (omega arith) f)) pos))

pub add_before : (k n : ℕ) (a : ℕ → ℕ) → Few (k + n) 255 a
    → joined (k + n) a + joined (k + n) a * 256 ^ k % 256 ^ (k + n) ≡ joined (k + n) (with_before k a)
unfolding with_before
add_before k n a f = rw (joined_shl k n a f) (joined_behind k n a a)

-- byte j of a number that is shifted up by a byte is the one before it
pub shifted_at : (n : ℕ) (a : ℕ → ℕ) (j : ℕ) → Few (1 + n) 255 a → j < n
    → joined (1 + n) a * 256 % 256 ^ (1 + n) / 2 ^ (8 * suc j) % 256 ≡ a j
shifted_at n a j f l =
    let e : 256 * joined n a / 256 ≡ joined n a = omega arith in
    rw (joined_shl 1 n a f, down (256 * joined n a) j, e) (joined_at n a j (few_part n a (omega arith) f) l)
