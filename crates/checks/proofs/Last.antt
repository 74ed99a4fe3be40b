-- The last byte of a record taken apart: its parentheses, and the unused bits behind them.
-- Assumes nothing.
use mathlib.Core.Path.{◌≡◌, ap, sym, ◌∙◌}
use Prim.Native.Nat.{ℕ, suc, ◌+◌, ◌-◌, ◌*◌, ◌<◌}
use native.Mathlib.Omega.{arith}
use mathlib.Core.List.{List, [], ◌∷◌, ◌++◌, append-nil}
use lib.ListN.{length, take, drop, get_or, length-drop}
use lib.Seq.{take-suc, take_all, get_or-drop, length-take-le, take-append-add, drop-append-add}
use Rattle.rules.specs.Shape.{Paren}
use Rattle.rules.specs.Bytes.{bytes_for, low_bits, all_bits, parens, unused}
use Rattle.rules.proofs.Bytes.{all_bits-append, all_bits-length}
use Rattle.checks.specs.Inside.{Whole}

-- the bits that no parenthesis uses, at the top of the last byte
abbrev pub spare : ℕ → ℕ
spare n = 8 * bytes_for n - 2 * n

one : (b : ℕ) → all_bits (b ∷ []) ≡ low_bits 8 b
unfolding all_bits
one b = append-nil (low_bits 8 b)

-- all bytes but the last, then the last
last_apart : (bs : List ℕ) (m : ℕ) → length bs ≡ suc m → all_bits bs ≡ all_bits (take m bs) ++ low_bits 8 (get_or bs m 0)
last_apart bs m h =
    ap all_bits (sym (take_all (suc m) bs (omega arith)) ∙ take-suc bs m 0 (omega arith))
    ∙ all_bits-append (take m bs) (get_or bs m 0 ∷ [])
    ∙ ap (λ (l : List Paren). all_bits (take m bs) ++ l) (one (get_or bs m 0))

-- the bytes of the body before the last one, as the code lends them, and the bits of the last
abbrev pub before : List ℕ → List ℕ
before r = take (length r - 1 - 4) (drop 4 r)

abbrev pub last : List ℕ → List Paren
last r = low_bits 8 (get_or r (length r - 1) 0)

module _ (r : List ℕ) (n : ℕ) (whole : Whole r n) (some : 0 < n) where
  body : all_bits (drop 4 r) ≡ all_bits (before r) ++ last r
  body =
      let e = whole.exact in
      let d : length (drop 4 r) ≡ suc (length r - 1 - 4) = length-drop 4 r ∙ omega arith in
      let g : get_or (drop 4 r) (length r - 1 - 4) 0 ≡ get_or r (length r - 1) 0 =
      get_or-drop 4 r (length r - 1 - 4) 0 ∙ ap (λ (k : ℕ). get_or r k 0) (omega arith) in
      last_apart (drop 4 r) (length r - 1 - 4) d ∙ ap (λ (b : ℕ). all_bits (before r) ++ low_bits 8 b) g

  bits_before : length (all_bits (before r)) + (8 - spare n) ≡ 2 * n
  bits_before =
      let e = whole.exact in
      let d = length-drop 4 r in
      omega (arith, all_bits-length (before r), length-take-le (length r - 1 - 4) (drop 4 r) (omega arith))

  pub parens_last : parens n r ≡ all_bits (before r) ++ take (8 - spare n) (last r)
  unfolding parens
  parens_last =
      ap (take (2 * n)) body
      ∙ ap (λ (k : ℕ). take k (all_bits (before r) ++ last r)) (sym bits_before)
      ∙ take-append-add (all_bits (before r)) (last r) (8 - spare n)

  pub unused_last : unused n r ≡ drop (8 - spare n) (last r)
  unfolding unused
  unused_last =
      ap (drop (2 * n)) body
      ∙ ap (λ (k : ℕ). drop k (all_bits (before r) ++ last r)) (sym bits_before)
      ∙ drop-append-add (all_bits (before r)) (last r) (8 - spare n)
