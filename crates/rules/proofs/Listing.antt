-- Decimal numbers with no count; and small listings, document 01's own example among them.
-- Assumes nothing.
use mathlib.Core.Path.{◌≡◌, refl}
use Prim.Native.Nat.{ℕ, zero, suc, ◌/◌, ◌%◌, ◌≤◌, ◌<◌}
use native.Mathlib.Omega.{arith}
use mathlib.Core.List.{List, [], ◌∷◌, ◌++◌, flatten}
use borrow.Author.Tests.{lt-ltb, le-ltb}
use lib.ListN.{length}
use Rattle.rules.specs.Excess.{openings, closings, excess, list_of, excesses, balanced_from, balanced}
use Rattle.rules.specs.Bytes.{paren, low_bits, all_bits, entries, parens, unused}
use Rattle.rules.specs.Order.{frame_says, check_says}
use Rattle.rules.specs.Drawer.{most_bytes}
use Rattle.rules.specs.Listing.{sign, digit, decimal_of, decimal, greatest_of, greatest_excess, shown_shape, shape_line, refused_line, end_line, long_line, record_line, lines_from, ended_lines, listing_lines, listing}

-- ---- decimal numbers

pub decimal-one : (x : ℕ) → x < 10 → decimal x ≡ digit x
unfolding decimal decimal_of
decimal-one zero h = refl
decimal-one (suc x) h = rw (lt-ltb (suc x) 10 h)

-- any count that is large enough does
enough : (f g x : ℕ) → x ≤ f → x ≤ g → decimal_of f x ≡ decimal_of g x
unfolding decimal_of
enough zero zero x a b = refl
enough zero (suc g) x a b = rw (lt-ltb x 10 (omega arith))
enough (suc f) zero x a b = rw (lt-ltb x 10 (omega arith))
enough (suc f) (suc g) x a b = rw (enough f g (x / 10) (omega arith) (omega arith))

pub decimal-more : (x : ℕ) → 10 ≤ x → decimal x ≡ decimal (x / 10) ++ digit (x % 10)
unfolding decimal decimal_of
decimal-more zero h = absurd (omega arith)
decimal-more (suc x) h = rw (le-ltb (suc x) 10 h, enough x (suc x / 10) (suc x / 10) (omega arith) (omega arith))

-- ---- small listings, computed; and the two that no small drawer shows

-- a record of no entries, and one whose unused bit is 1
abbrev none : List ℕ → List ℕ
none d = 0x52 ∷ 0x4D ∷ 0 ∷ 0 ∷ d

abbrev unclean : List ℕ → List ℕ
unclean d = 0x52 ∷ 0x4D ∷ 1 ∷ 0 ∷ 0x05 ∷ d

pub record Listings : Type 0 where
  -- document 01's own: "0 5 2 (())(())()", "1 refused 7", "end 2"
  pub example : listing (0x52 ∷ 0x4D ∷ 5 ∷ 0 ∷ 0x33 ∷ 0x01 ∷ 0x52 ∷ 0x4D ∷ 1 ∷ 0 ∷ 0x02 ∷ []) ≡
      48 ∷ 32 ∷ 53 ∷ 32 ∷ 50 ∷ 32 ∷ 40 ∷ 40 ∷ 41 ∷ 41 ∷ 40 ∷ 40 ∷ 41 ∷ 41 ∷ 40 ∷ 41 ∷ 10 ∷
      49 ∷ 32 ∷ 114 ∷ 101 ∷ 102 ∷ 117 ∷ 115 ∷ 101 ∷ 100 ∷ 32 ∷ 55 ∷ 10 ∷
      101 ∷ 110 ∷ 100 ∷ 32 ∷ 50 ∷ 10 ∷ []
  -- a drawer of no records: "end 0"
  pub empty : listing [] ≡ 101 ∷ 110 ∷ 100 ∷ 32 ∷ 48 ∷ 10 ∷ []
  -- no entries: "0 0 0 -", "end 1"
  pub no-entries : listing (none []) ≡ 48 ∷ 32 ∷ 48 ∷ 32 ∷ 48 ∷ 32 ∷ 45 ∷ 10 ∷ 101 ∷ 110 ∷ 100 ∷ 32 ∷ 49 ∷ 10 ∷ []
  -- 6 goes on; 5, 4 and 1 stop it, whatever stands behind
  pub six : listing_lines (unclean (none [])) ≡ refused_line 0 6 ∷ shape_line 1 0 [] ∷ end_line 2 ∷ []
  pub five : listing_lines (none (0x52 ∷ [])) ≡ shape_line 0 0 [] ∷ refused_line 1 5 ∷ end_line 2 ∷ []
  pub four : listing_lines (0x52 ∷ 0x4E ∷ 0 ∷ 0 ∷ none []) ≡ refused_line 0 4 ∷ end_line 1 ∷ []
  pub one : listing_lines (0x52 ∷ 0x4D ∷ 1 ∷ 128 ∷ none []) ≡ refused_line 0 1 ∷ end_line 1 ∷ []
  -- whatever byte follows record 63
  pub fourteen : (b : ℕ) → lines_from 1 63 (unclean (b ∷ [])) ≡ refused_line 63 6 ∷ refused_line 64 14 ∷ []
  -- "refused 12" only
  pub twelve : (d : List ℕ) → most_bytes < length d → listing d ≡ 114 ∷ 101 ∷ 102 ∷ 117 ∷ 115 ∷ 101 ∷ 100 ∷ 32 ∷ 49 ∷ 50 ∷ 10 ∷ []

pub listings : Listings
unfolding openings closings excess list_of excesses balanced_from balanced paren low_bits all_bits entries parens unused frame_says check_says sign decimal_of decimal greatest_of greatest_excess shown_shape shape_line refused_line end_line long_line record_line lines_from ended_lines listing_lines listing flatten
listings =
    record {
      example = refl;
      empty = refl;
      no-entries = refl;
      six = refl;
      five = refl;
      four = refl;
      one = refl;
      fourteen = λ b. refl;
      twelve = λ d h. rw (lt-ltb most_bytes (length d) h);
    }
