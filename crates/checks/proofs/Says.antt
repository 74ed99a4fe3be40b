-- What the record check says, by what the code has found out on the way.
-- Assumes nothing.
use mathlib.Core.Path.{◌≡◌}
use Prim.Native.Nat.{ℕ, ◌-◌, ◌≤◌, ◌<◌}
use native.Mathlib.Omega.{arith}
use mathlib.Core.Bool.{Bool, cond}
use mathlib.Core.List.{List}
use borrow.Author.Tests.{le-ltb}
use lib.Dec.{ltb}
use lib.ListN.{length, drop, drop_of_length-le}
use Rattle.rules.specs.Excess.{openings, balanced, balanced_from}
use Rattle.rules.specs.Bytes.{record_length, all_bits, parens, unused}
use Rattle.rules.specs.Refusal.{answer, refusal}
use Rattle.rules.specs.Order.{frame_says, check_says}
use Rattle.checks.specs.Inside.{Whole, inside_says}
use Rattle.checks.proofs.Last.{spare, last, unused_last}

pub inside_none : (r : List ℕ) → length r ≤ 4 → answer 0 ≡ inside_says r 0
unfolding inside_says unused parens all_bits openings balanced balanced_from
inside_none r h = rw (le-ltb (record_length 0) (length r) h, drop_of_length-le r h)

pub inside_some : (r : List ℕ) (n : ℕ) → Whole r n → 0 < n → (t : Bool) → t ≡ ltb 0 (openings (drop (8 - spare n) (last r)))
    → inside_says r n ≡ cond t (refusal 6) (cond (balanced (parens n r)) (answer n) (refusal 7))
unfolding inside_says
inside_some r n whole some t e =
    let x = whole.exact in
    rw (le-ltb (record_length n) (length r) (omega arith), unused_last r n whole some, ← e)

-- ---- behind the frame

pub check-inside : (r : List ℕ) (n : ℕ) → answer n ≡ frame_says r → check_says r ≡ inside_says r n
unfolding check_says inside_says
check-inside r n e = rw (← e)

pub check-refused : (r : List ℕ) (k : ℕ) → refusal k ≡ frame_says r → check_says r ≡ refusal k
unfolding check_says
check-refused r k e = rw (← e)
