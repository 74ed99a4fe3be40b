-- Records and parentheses, there and back: a record gives back the parentheses that it was made of and passes the check, and what passes the
-- check is the record of its own parentheses. Assumes nothing.
use mathlib.Core.Path.{◌≡◌, refl, ap, sym, ◌∙◌}
use Prim.Native.Nat.{ℕ, zero, suc, ◌+◌, ◌*◌, ◌/◌, ◌%◌, ◌^◌, ◌≤◌, ◌<◌}
use native.Mathlib.Nat.{zero-add, suc-add, pow-succ'}
use native.Mathlib.Omega.{arith}
use mathlib.Core.List.{List, [], ◌∷◌, ◌++◌}
use lib.ListN.{length, take, drop, get_or, length-drop}
use lib.Seq.{take_at, drop_at, get_or-drop, take-nil, drop-nil}
use Rattle.rules.specs.Shape.{Paren, opening, closing}
use Rattle.rules.specs.Excess.{openings, Balanced}
use Rattle.rules.specs.Bytes.{Bytes, most, bytes_for, record_length, bit, bits, bytes_of, record_of, paren, low_bits, all_bits, entries, parens, unused}
use Rattle.rules.specs.Refusal.{answer}
use Rattle.rules.specs.Order.{check_says}
use Rattle.rules.proofs.Bits.{bits_below}
use Rattle.rules.proofs.Bytes.{low_bits-length, all_bits-length}
use Rattle.rules.proofs.Checked.{Framed, Checked, checked_says, says_checked, parens-length}

-- ---- one byte

bit_low : (p : Paren) (x : ℕ) → paren ((bit p + 2 * x) % 2) ≡ p
unfolding bit paren
bit_low opening x = let e : (1 + 2 * x) % 2 ≡ 1 = omega arith in rw e
bit_low closing x = let e : (0 + 2 * x) % 2 ≡ 0 = omega arith in rw e

bit-rest : (p : Paren) (x : ℕ) → (bit p + 2 * x) / 2 ≡ x
unfolding bit
bit-rest opening x = omega arith
bit-rest closing x = omega arith

bit-paren : (m : ℕ) → m < 2 → bit (paren m) ≡ m
unfolding bit paren
bit-paren zero h = refl
bit-paren (suc m) h = omega arith

bits-low_bits : (k b : ℕ) → b < 2 ^ k → bits (low_bits k b) ≡ b
unfolding bits low_bits
bits-low_bits zero b h = let g : b < 1 = h in omega arith
bits-low_bits (suc k) b h =
    let g : b < 2 * 2 ^ k = rw pow-succ' at h in
    omega (arith, bit-paren (b % 2) (omega arith), bits-low_bits k (b / 2) (omega arith))

-- k parentheses: those of s, and closings where s has no more
padded : ℕ → List Paren → List Paren
padded zero s = []
padded (suc k) [] = closing ∷ padded k []
padded (suc k) (p ∷ s) = p ∷ padded k s

low_bits-bits : (k : ℕ) (s : List Paren) → low_bits k (bits (take k s)) ≡ padded k s
unfolding bits low_bits padded paren
low_bits-bits zero s = refl
low_bits-bits (suc k) [] = ap (λ (l : List Paren). closing ∷ l) (rw take-nil at (low_bits-bits k []))
low_bits-bits (suc k) (p ∷ s) = rw (bit_low, bit-rest, low_bits-bits k s)

-- ---- bytes one after the other

padded_add : (j k : ℕ) (s : List Paren) → padded (j + k) s ≡ padded j s ++ padded k (drop j s)
unfolding padded
padded_add zero k s = rw zero-add
padded_add (suc j) k [] = rw (suc-add j k, padded_add j k [], drop-nil)
padded_add (suc j) k (p ∷ s) = rw (suc-add j k, padded_add j k s)

bytes_of-length : (m : ℕ) (s : List Paren) → length (bytes_of m s) ≡ m
unfolding bytes_of
bytes_of-length zero s = refl
bytes_of-length (suc m) s = ap suc (bytes_of-length m (drop 8 s))

bytes_of-small : (m : ℕ) (s : List Paren) (k : ℕ) → get_or (bytes_of m s) k 0 < 256
unfolding bytes_of
bytes_of-small zero s k = omega arith
bytes_of-small (suc m) s zero = bits_below 8 s
bytes_of-small (suc m) s (suc k) = bytes_of-small m (drop 8 s) k

-- the bits of bytes that were made of parentheses
all_bits-bytes_of : (m : ℕ) (s : List Paren) → all_bits (bytes_of m s) ≡ padded (8 * m) s
unfolding all_bits bytes_of padded
all_bits-bytes_of zero s = refl
all_bits-bytes_of (suc m) s =
    let e : 8 * suc m ≡ 8 + 8 * m = omega arith in
    rw (e, padded_add 8 (8 * m) s, low_bits-bits 8 s, all_bits-bytes_of m (drop 8 s))

-- bytes made of bytes' bits
bytes_of-all_bits : (bs : List ℕ) → Bytes bs → bytes_of (length bs) (all_bits bs) ≡ bs
unfolding all_bits bytes_of
bytes_of-all_bits [] h = refl
bytes_of-all_bits (b ∷ bs) h =
    rw (take_at (low_bits 8 b) (all_bits bs) 8 (low_bits-length 8 b), drop_at (low_bits 8 b) (all_bits bs) 8 (low_bits-length 8 b), bits-low_bits 8 b (h.small 0), bytes_of-all_bits bs (record { small = λ k. h.small (suc k) }))

padded-take : (k : ℕ) (s : List Paren) → length s ≤ k → take (length s) (padded k s) ≡ s
unfolding padded
padded-take k [] h = refl
padded-take zero (p ∷ s) h = absurd (omega arith)
padded-take (suc k) (p ∷ s) h = ap (λ (l : List Paren). p ∷ l) (padded-take k s (omega arith))

padded-drop : (k : ℕ) (s : List Paren) → openings (drop (length s) (padded k s)) ≡ 0
unfolding padded openings
padded-drop zero s = rw drop-nil
padded-drop (suc k) [] = padded-drop k []
padded-drop (suc k) (p ∷ s) = padded-drop k s

-- closings behind are all that is lost
padded_again : (j : ℕ) (t : List Paren) → openings (drop j t) ≡ 0 → padded (length t) (take j t) ≡ t
unfolding padded openings
padded_again j [] h = refl
padded_again zero (opening ∷ t) h = absurd (omega arith)
padded_again zero (closing ∷ t) h = ap (λ (l : List Paren). closing ∷ l) (padded_again zero t h)
padded_again (suc j) (p ∷ t) h = ap (λ (l : List Paren). p ∷ l) (padded_again j t h)

-- ---- from parentheses to a record and back

pub record_length_lem : (n : ℕ) (s : List Paren) → length (record_of n s) ≡ record_length n
unfolding record_of
record_length_lem n s = omega (arith, bytes_of-length (bytes_for n) s)

pub record_entries : (n : ℕ) (s : List Paren) → entries (record_of n s) ≡ n
unfolding record_of entries
record_entries n s = omega arith

pub record_bytes : (n : ℕ) (s : List Paren) → n ≤ most → Bytes (record_of n s)
unfolding record_of
record_bytes n s few = record { small = small }
  where
    small : (k : ℕ) → get_or (record_of n s) k 0 < 256
    small zero = omega arith
    small (suc zero) = omega arith
    small (suc (suc zero)) = omega arith
    small (suc (suc (suc zero))) = omega arith
    small (suc (suc (suc (suc k)))) = bytes_of-small (bytes_for n) s k

pub record_parens : (n : ℕ) (s : List Paren) → length s ≡ 2 * n → parens n (record_of n s) ≡ s
unfolding record_of parens
record_parens n s e =
    rw (all_bits-bytes_of (bytes_for n) s, ← e) (padded-take (8 * bytes_for n) s (omega arith))

pub record_unused : (n : ℕ) (s : List Paren) → length s ≡ 2 * n → openings (unused n (record_of n s)) ≡ 0
unfolding record_of unused
record_unused n s e = rw (all_bits-bytes_of (bytes_for n) s, ← e) (padded-drop (8 * bytes_for n) s)

pub record_accepted : (n : ℕ) (s : List Paren) → n ≤ most → length s ≡ 2 * n → Balanced s → check_says (record_of n s) ≡ answer n
unfolding record_of
record_accepted n s few e b =
    checked_says (record {
      framed = record {
        mark_first = refl;
        mark_second = refl;
        says = record_entries n s;
        few = few;
        long = omega (arith, record_length_lem n s);
      };
      whole = record_length_lem n s;
      clear = record_unused n s e;
      balance = rw (record_parens n s e) b;
    })

-- ---- from a record to parentheses and back

-- the check passes r as a record of n entries, and r is the record of its own parentheses
pub record Accepted (r : List ℕ) (n : ℕ) : Type 0 where
  pub few : n ≤ most
  pub says : entries r ≡ n
  pub whole : length r ≡ record_length n
  pub count : length (parens n r) ≡ 2 * n
  pub balance : Balanced (parens n r)
  pub again : r ≡ record_of n (parens n r)

front : (r : List ℕ) → 4 ≤ length r → r ≡ get_or r 0 0 ∷ get_or r 1 0 ∷ get_or r 2 0 ∷ get_or r 3 0 ∷ drop 4 r
front [] l = absurd (omega arith)
front (a ∷ []) l = absurd (omega arith)
front (a ∷ b ∷ []) l = absurd (omega arith)
front (a ∷ b ∷ c ∷ []) l = absurd (omega arith)
front (a ∷ b ∷ c ∷ d ∷ r) l = refl

head_again : (r : List ℕ) (n : ℕ) → Bytes r → Framed r n → r ≡ 0x52 ∷ 0x4D ∷ n % 256 ∷ n / 256 ∷ drop 4 r
unfolding entries
head_again r n h f =
    let low : get_or r 2 0 ≡ n % 256 = omega (arith, f.says, h.small 2) in
    let high : get_or r 3 0 ≡ n / 256 = omega (arith, f.says, h.small 2) in
    cc (front r (omega arith))

-- bytes are the same where their bits are
bytes_same : (bs cs : List ℕ) → Bytes bs → Bytes cs → length bs ≡ length cs → all_bits bs ≡ all_bits cs → bs ≡ cs
bytes_same bs cs f g l e = sym (bytes_of-all_bits bs f) ∙ rw (l, e) (bytes_of-all_bits cs g)

body_again : (r : List ℕ) (n : ℕ) → Bytes r → Checked r n → bytes_of (bytes_for n) (parens n r) ≡ drop 4 r
unfolding parens unused
body_again r n h c =
    let t : List Paren = all_bits (drop 4 r) in
    let m : length (drop 4 r) ≡ bytes_for n = omega (arith, length-drop 4 r, c) in
    let eight : 8 * bytes_for n ≡ length t = omega (arith, all_bits-length (drop 4 r)) in
    bytes_same (bytes_of (bytes_for n) (parens n r)) (drop 4 r)
    (record { small = bytes_of-small (bytes_for n) (parens n r) }) (record { small = λ k. rw get_or-drop (h.small (4 + k)) })
    (bytes_of-length (bytes_for n) (parens n r) ∙ sym m)
    (all_bits-bytes_of (bytes_for n) (parens n r) ∙ rw eight (padded_again (2 * n) t c.clear))

pub accepted_record : (r : List ℕ) (n : ℕ) → Bytes r → check_says r ≡ answer n → Accepted r n
unfolding record_of
accepted_record r n h e =
    let c = says_checked r n e in
    record {
      few = c.framed.few;
      says = c.framed.says;
      whole = c.whole;
      count = parens-length r n c.framed.long;
      balance = c.balance;
      again = rw (body_again r n h c) (head_again r n h c.framed);
    }
