-- How many digits a number has.
-- Assumes nothing.
use mathlib.Core.Path.{◌≡◌, ap, ◌∙◌}
use Prim.Native.Nat.{ℕ, zero, suc, ◌+◌, ◌*◌, ◌/◌, ◌%◌, ◌^◌, ◌≤◌, ◌<◌}
use native.Mathlib.Nat.{pow-succ'}
use native.Mathlib.Decide.{dec_lt}
use native.Mathlib.Omega.{arith}
use lib.ListN.{length, length-append}
use Rattle.rules.specs.Listing.{decimal, digit}
use Rattle.rules.proofs.Listing.{decimal-one, decimal-more}

pub one-digit : (x : ℕ) → x < 10 → length (decimal x) ≡ 1
one-digit x h = ap length (decimal-one x h)

pub one_more_lem : (x : ℕ) → 10 ≤ x → length (decimal x) ≡ length (decimal (x / 10)) + 1
one_more_lem x h = ap length (decimal-more x h) ∙ length-append (decimal (x / 10)) (digit (x % 10))

digits_most : (k x : ℕ) → x < 10 ^ suc k → length (decimal x) ≤ suc k
digits_most zero x h = omega (arith, one-digit x (omega (arith, h)))
digits_most (suc k) x h = by (dec_lt x 10) (λ l. digits_most k (x / 10) l)
  where
    by : Dec (x < 10) → (x / 10 < 10 ^ suc k → length (decimal (x / 10)) ≤ suc k) → length (decimal x) ≤ suc (suc k)
    by (yes l) next = omega (arith, one-digit x l)
    by (no l) next =
        let p : x < 10 * 10 ^ suc k = rw pow-succ' at h in
        let n : length (decimal (x / 10)) ≤ suc k = next (omega arith) in
        omega (arith, one_more_lem x (omega arith))

-- a number of 64 bits has at most 20 digits
pub twenty : (x : ℕ) → x < 2 ^ 64 → length (decimal x) ≤ 20
twenty x h = digits_most 19 x (omega (arith, h))
