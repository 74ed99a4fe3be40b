-- Parenthesis b of a record is bit b mod 8 of byte b/8 behind the head, and the sign that stands for it.
-- Assumes nothing.
use mathlib.Core.Path.{◌≡◌, refl, ap, sym, ◌∙◌}
use Prim.Native.Nat.{ℕ, zero, suc, max, ◌+◌, ◌-◌, ◌*◌, ◌/◌, ◌%◌, ◌^◌, ◌≤◌, ◌<◌}
use native.Mathlib.Nat.{pow-zero, pow-succ', div-one, div-div-eq-div-mul}
use native.Mathlib.Decide.{dec_lt}
use native.Mathlib.Omega.{arith}
use mathlib.Core.List.{List, [], ◌∷◌, ◌++◌, map}
use borrow.Author.Tests.{eq-eqb, ne_eqb}
use lib.ListN.{length, take, drop, get_or, length-take, length-drop, length-map, take-append-drop, get_or-append}
use lib.Seq.{get_or-append-add, get_or-take, get_or-drop, take_all, length-take-le}
use Rattle.rules.specs.Shape.{Paren, closing}
use Rattle.rules.specs.Bytes.{paren, low_bits, all_bits, parens, unused}
use Rattle.rules.specs.Listing.{dash, sign, greatest_excess, shown_shape}
use Rattle.rules.proofs.Bytes.{low_bits-length}
use Rattle.rules.proofs.Checked.{Checked, parens-length}
use Rattle.listing.specs.Bit.{bit_at}
use Rattle.listing.proofs.Turned.{closings_behind}

low_at : (k x j : ℕ) → j < k → get_or (low_bits k x) j closing ≡ paren (x / 2 ^ j % 2)
unfolding low_bits
low_at zero x j h = absurd (omega arith)
low_at (suc k) x zero h = rw (pow-zero, div-one)
low_at (suc k) x (suc j) h = low_at k (x / 2) j (omega arith) ∙ rw (div-div-eq-div-mul, pow-succ')

all_at : (bs : List ℕ) (b : ℕ) → b < 8 * length bs → get_or (all_bits bs) b closing ≡ paren (get_or bs (b / 8) 0 / 2 ^ (b % 8) % 2)
unfolding all_bits
all_at [] b h = absurd (omega arith)
all_at (x ∷ bs) b h = by (dec_lt b 8) (all_at bs (b - 8))
  where
    by : Dec (b < 8) → (b - 8 < 8 * length bs → get_or (all_bits bs) (b - 8) closing ≡ paren (get_or bs ((b - 8) / 8) 0 / 2 ^ ((b - 8) % 8) % 2))
        → get_or (low_bits 8 x ++ all_bits bs) b closing ≡ paren (get_or (x ∷ bs) (b / 8) 0 / 2 ^ (b % 8) % 2)
    by (yes l) next =
        let q : b / 8 ≡ 0 = omega arith in
        let m : b % 8 ≡ b = omega arith in
        rw (q, m, get_or-append (low_bits 8 x) (all_bits bs) closing b (omega (arith, low_bits-length 8 x))) (low_at 8 x b l)
    by (no l) next =
        let q : b / 8 ≡ suc ((b - 8) / 8) = omega arith in
        let m : b % 8 ≡ (b - 8) % 8 = omega arith in
        let e : b ≡ length (low_bits 8 x) + (b - 8) = omega (arith, low_bits-length 8 x) in
        rw (q, m) (ap (λ k. get_or (low_bits 8 x ++ all_bits bs) k closing) e ∙ get_or-append-add (low_bits 8 x) (all_bits bs) (b - 8) closing ∙ next (omega arith))

-- what the reader of a checked record relies on
pub record Readable (r : List ℕ) (n : ℕ) : Type 0 where
  pub head : 4 ≤ length r
  pub short : length r ≤ 8196
  pub few : 2 * n ≤ 65536
  pub body : (b : ℕ) → b < 2 * n → 4 + b / 8 < length r

sign_of : (m : ℕ) → m < 2 → 41 - m ≡ sign (paren m)
unfolding sign paren
sign_of zero h = omega arith
sign_of (suc m) h = omega arith

signs_at : (s : List Paren) (b : ℕ) → b < length s → get_or (map sign s) b 0 ≡ sign (get_or s b closing)
signs_at [] b h = absurd (omega arith)
signs_at (p ∷ s) zero h = refl
signs_at (p ∷ s) (suc b) h = signs_at s b (omega arith)

pub shown_none : (n : ℕ) (s : List Paren) → n ≡ 0 → shown_shape n s ≡ dash
unfolding shown_shape
shown_none n s e = rw (eq-eqb n 0 e)

pub shown_some : (n : ℕ) (s : List Paren) → (n ≡ 0 → ⊥) → shown_shape n s ≡ map sign s
unfolding shown_shape
shown_some n s e = rw (ne_eqb n 0 e)

module _ {r : List ℕ} {n : ℕ} (c : Checked r n) where
  pub readable : Readable r n
  readable = record { head = omega (arith, c); short = omega (arith, c); few = omega (arith, c); body = λ b h. omega (arith, c) }

  pub paren_at : (b : ℕ) → b < 2 * n → get_or (parens n r) b closing ≡ paren (bit_at r b)
  unfolding parens
  paren_at b h =
      rw (get_or-take (2 * n) (all_bits (drop 4 r)) b closing h, all_at (drop 4 r) b (omega (arith, c, length-drop 4 r)), get_or-drop 4 r (b / 8) 0)

  pub short-body : length (take (length r - 4) (drop 4 r)) ≤ 8192
  short-body = omega (arith, readable, length-take (length r - 4) (drop 4 r))

  -- all bytes behind the head: the unused bits are closings, and raise no excess
  pub greatest_parens : greatest_excess (all_bits (take (length r - 4) (drop 4 r))) ≡ greatest_excess (parens n r)
  unfolding parens unused
  greatest_parens =
      let s = all_bits (drop 4 r) in
      rw (take_all (length r - 4) (drop 4 r) (omega (arith, length-drop 4 r)))
      (ap greatest_excess (sym (take-append-drop (2 * n) s)) ∙ closings_behind (take (2 * n) s) (drop (2 * n) s) c.clear)

  pub signs_length : length (map sign (parens n r)) ≡ 2 * n
  signs_length = length-map (parens n r) sign ∙ parens-length r n c.framed.long

  pub shown_length : length (shown_shape n (parens n r)) ≤ max 1 (2 * n)
  shown_length = by (dec_lt 0 n)
    where
      by : Dec (0 < n) → length (shown_shape n (parens n r)) ≤ max 1 (2 * n)
      by (yes l) = rw (shown_some n (parens n r) (λ e. omega arith)) (omega (arith, signs_length))
      by (no l) = rw (shown_none n (parens n r) (omega arith)) (omega arith)

  pub sign_at : (b : ℕ) → b < 2 * n → 41 - bit_at r b ≡ get_or (map sign (parens n r)) b 0
  sign_at b h =
      let l : b < length (parens n r) = omega (arith, parens-length r n c.framed.long) in
      sign_of (bit_at r b) (omega arith) ∙ rw (signs_at (parens n r) b l, paren_at b h)

  -- eight of them stand for a whole byte
  eight_at : (k i : ℕ) → k < n / 4 → i < 8 → get_or (map sign (low_bits 8 (get_or r (4 + k) 0))) i 0 ≡ get_or (map sign (parens n r)) (8 * k + i) 0
  eight_at k i h l =
      let x = get_or r (4 + k) 0 in
      let q : (8 * k + i) / 8 ≡ k = omega arith in
      let m : (8 * k + i) % 8 ≡ i = omega arith in
      signs_at (low_bits 8 x) i (omega (arith, low_bits-length 8 x))
      ∙ rw (low_at 8 x i l) (sym (sign_of (x / 2 ^ i % 2) (omega arith)) ∙ rw (q, m) at (sign_at (8 * k + i) (omega arith)))

  -- so much stands once these eight are written behind those of the first k bytes
  pub eight_more : (out : List ℕ) {x : List ℕ} (rest : List ℕ) (k m : ℕ) → k < n / 4 → m ≡ 4 + k → 8 * k + 8 ≤ length out → x ≡ map sign (low_bits 8 (get_or r m 0))
      → ((j : ℕ) → j < 8 * k → get_or out j 0 ≡ get_or (map sign (parens n r)) j 0)
      → (j : ℕ) → j < 8 * (k + 1) → get_or (take (8 * k) out ++ (x ++ rest)) j 0 ≡ get_or (map sign (parens n r)) j 0
  eight_more out {x} rest k m h place room is' stand j below = by (dec_lt j (8 * k))
    where
      is : x ≡ map sign (low_bits 8 (get_or r (4 + k) 0))
      is = is' ∙ rw place

      front : length (take (8 * k) out) ≡ 8 * k
      front = length-take-le (8 * k) out (omega arith)

      eight : length x ≡ 8
      eight = ap length is ∙ length-map (low_bits 8 (get_or r (4 + k) 0)) sign ∙ low_bits-length 8 (get_or r (4 + k) 0)

      by : Dec (j < 8 * k) → get_or (take (8 * k) out ++ (x ++ rest)) j 0 ≡ get_or (map sign (parens n r)) j 0
      by (yes l) = rw (get_or-append (take (8 * k) out) (x ++ rest) 0 j (omega (arith, front)), get_or-take (8 * k) out j 0 l) (stand j l)
      by (no l) =
          let i = j - 8 * k in
          let e : j ≡ length (take (8 * k) out) + i = omega (arith, front) in
          let f : 8 * k + i ≡ j = omega arith in
          ap (λ m. get_or (take (8 * k) out ++ (x ++ rest)) m 0) e
          ∙ get_or-append-add (take (8 * k) out) (x ++ rest) i 0
          ∙ get_or-append x rest 0 i (omega (arith, eight))
          ∙ ap (λ y. get_or y i 0) is
          ∙ eight_at k i h (omega arith)
          ∙ ap (λ m. get_or (map sign (parens n r)) m 0) f
