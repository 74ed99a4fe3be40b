-- The walk along a record's bytes, whole ones and then the last; what it has written is the stand-in.
-- Assumes nothing.
use mathlib.Core.Path.{◌≡◌, refl, ap, ◌∙◌}
use Prim.Native.Nat.{ℕ, zero, suc, ◌+◌, ◌-◌, ◌*◌, ◌/◌, ◌%◌, ◌≤◌, ◌<◌}
use native.Mathlib.Nat.{zero-add}
use native.Mathlib.Omega.{arith}
use mathlib.Core.Bool.{true}
use mathlib.Core.List.{List, [], ◌++◌, append-nil}
use lib.ListN.{length, take, drop, get_or, length-drop}
use lib.Seq.{drop-cons, take-append-le, take-append-add, length-take-le, get_or-take, get_or-drop}
use Rattle.rules.specs.Shape.{Paren}
use Rattle.rules.specs.Excess.{closings, balanced_from, balanced}
use Rattle.rules.specs.StandIn.{stand_in}
use Rattle.rules.specs.Bytes.{low_bits, all_bits, parens}
use Rattle.rules.proofs.Excess.{is_balanced, counts-length}
use Rattle.rules.proofs.StandIn.{stand_in_walk}
use Rattle.rules.proofs.Bytes.{low_bits-length}
use Rattle.rules.proofs.Checked.{Checked, parens-length}
use Rattle.std.proofs.Common.{MutBor}
use Rattle.stand_in.specs.declared.Walk.{Walk}
use Rattle.stand_in.specs.Walk.{walked, Ready}
use Rattle.stand_in.proofs.Walking.{Going, none_gone, ready_part, some_gone, written_all}

-- ---- a record's parentheses byte by byte

-- the bytes that are used whole
abbrev whole_bytes : List ℕ → ℕ → List ℕ
whole_bytes r n = take (4 + n / 4 - 4) (drop 4 r)

-- the parentheses behind i of them
pub left : ℕ → List ℕ → ℕ → List Paren
left n r i = take (2 * n - 8 * i) (all_bits (drop (4 + i) r))

left_next : (n : ℕ) (r : List ℕ) (i : ℕ) → 4 + i < length r → 8 * i + 8 ≤ 2 * n → left n r i ≡ low_bits 8 (get_or r (4 + i) 0) ++ left n r (i + 1)
unfolding left all_bits
left_next n r i h l =
    let b : List Paren = low_bits 8 (get_or r (4 + i) 0) in
    let more : 2 * n - 8 * i ≡ length b + (2 * n - 8 * (i + 1)) = omega (arith, low_bits-length 8 (get_or r (4 + i) 0)) in
    let next : suc (4 + i) ≡ 4 + (i + 1) = omega arith in
    rw (drop-cons r (4 + i) 0 h, more, take-append-add, ← next)

low_part : (j k b : ℕ) → j ≤ k → take j (low_bits k b) ≡ low_bits j b
unfolding low_bits
low_part zero k b h = refl
low_part (suc j) zero b h = absurd (omega arith)
low_part (suc j) (suc k) b h = rw (low_part j k (b / 2) (omega arith))

left_last : (n : ℕ) (r : List ℕ) (i : ℕ) → 4 + i < length r → 2 * n - 8 * i ≤ 8 → left n r i ≡ low_bits (2 * n - 8 * i) (get_or r (4 + i) 0)
unfolding left all_bits
left_last n r i h l =
    let b : ℕ = get_or r (4 + i) 0 in
    rw (drop-cons r (4 + i) 0 h, take-append-le (2 * n - 8 * i) (low_bits 8 b) (all_bits (drop (suc (4 + i)) r)) (rw low_bits-length l), low_part (2 * n - 8 * i) 8 b l)

left_none : (n : ℕ) (r : List ℕ) (i : ℕ) → 2 * n ≤ 8 * i → left n r i ≡ []
unfolding left
left_none n r i l = let none : 2 * n - 8 * i ≡ 0 = omega arith in rw none

-- ---- the walk along them

abbrev first : MutBor (List ℕ) → Walk
first o = record { column = o; excess = 0; closed = 0 }

-- i whole bytes of a record are done
abbrev pub Filling : List ℕ → ℕ → MutBor (List ℕ) → Walk → ℕ → Type 0
Filling r n o w i = Going (first o) (parens n r) w (left n r i)

module _ {r : List ℕ} {n : ℕ} (checked : Checked r n) where
  -- half of the parentheses close
  closed : closings (parens n r) ≡ n
  closed =
      omega (arith, checked.balance, counts-length (parens n r), parens-length r n checked.framed.long)

  balance : balanced_from 0 (parens n r) ≡ true
  unfolding balanced
  balance = is_balanced (parens n r) checked.balance

  count : length (whole_bytes r n) ≡ n / 4
  count = length-take-le (4 + n / 4 - 4) (drop 4 r) (omega (arith, length-drop 4 r, checked)) ∙ omega arith

  next : (i : ℕ) → i < length (whole_bytes r n) → left n r i ≡ low_bits 8 (get_or (whole_bytes r n) i 0) ++ left n r (i + 1)
  next i more =
      let within : i < 4 + n / 4 - 4 = omega (arith, count) in
      let is : get_or (whole_bytes r n) i 0 ≡ get_or r (4 + i) 0 = get_or-take (4 + n / 4 - 4) (drop 4 r) i 0 within ∙ get_or-drop 4 r i 0 in
      rw is (left_next n r i (omega (arith, checked)) (omega arith))

  last : (i : ℕ) → length (whole_bytes r n) ≤ i → i ≤ length (whole_bytes r n) → 0 < n % 4 → left n r i ≡ low_bits (2 * (n % 4)) (get_or r (4 + n / 4) 0)
  last i done within some =
      let is : i ≡ n / 4 = omega (arith, count) in
      let bits : 2 * n - 8 * (n / 4) ≡ 2 * (n % 4) = omega arith in
      rw is (rw bits at (left_last n r (n / 4) (omega (arith, checked)) (omega arith)))

  module _ {o : MutBor (List ℕ)} (room : n ≤ length o.now) where
    pub none_filled : Filling r n o (first o) 0
    unfolding left parens
    none_filled =
        let all : 2 * n - 8 * 0 ≡ 2 * n = omega arith in
        let ready : Ready (first o) (parens n r) =
        record { rest = []; balance = rw append-nil balance; few = rw append-nil (omega (arith, closed, checked)); room = rw append-nil (omega (arith, closed)) } in
        rw all (none_gone ready)

    -- no more parentheses
    filled : {w : Walk} → Going (first o) (parens n r) w [] → w.column.now ≡ stand_in (parens n r) ++ drop n o.now
    unfolding walked
    filled g =
        rw (zero-add, closed, ← (stand_in_walk (parens n r) checked.balance)) at (ap (λ (w : Walk). w.column.now) g.walk ∙ written_all (first o) (parens n r) balance (omega (arith, closed)))

  module _ {o : MutBor (List ℕ)} {w : Walk} {i : ℕ} (f : Filling r n o w i) where
    -- one more whole byte
    pub byte-ready : i < length (whole_bytes r n) → Ready w (low_bits 8 (get_or (whole_bytes r n) i 0))
    byte-ready more = ready_part _ _ (rw (next i more) at f.ready)

    pub byte-filled : {w' : Walk} → i < length (whole_bytes r n) → w' ≡ walked w (low_bits 8 (get_or (whole_bytes r n) i 0)) → Filling r n o w' (i + 1)
    byte-filled more e = rw e (some_gone (low_bits 8 (get_or (whole_bytes r n) i 0)) (left n r (i + 1)) (rw (next i more) at f))

    -- what the last byte has
    pub last-ready : length (whole_bytes r n) ≤ i → i ≤ length (whole_bytes r n) → 0 < n % 4 → Ready w (low_bits (2 * (n % 4)) (get_or r (4 + n / 4) 0))
    last-ready done within some = rw (last i done within some) at f.ready

    module _ (room : n ≤ length o.now) (done : length (whole_bytes r n) ≤ i) (within : i ≤ length (whole_bytes r n)) where
      pub last-filled : {w' : Walk} {col : List ℕ} → 0 < n % 4 → w' ≡ walked w (low_bits (2 * (n % 4)) (get_or r (4 + n / 4) 0)) → col ≡ w'.column.now
          → col ≡ stand_in (parens n r) ++ drop n o.now
      last-filled some e is =
          rw (is, e) (filled {o = o} room (some_gone (low_bits (2 * (n % 4)) (get_or r (4 + n / 4) 0)) [] (rw append-nil (rw (last i done within some) at f))))

      pub none_left : {col : List ℕ} → n % 4 ≤ 0 → col ≡ w.column.now → col ≡ stand_in (parens n r) ++ drop n o.now
      none_left z is = rw is (filled {o = o} room (rw (left_none n r i (omega (arith, count))) at f))
