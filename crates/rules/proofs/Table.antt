-- Document 01, "Numbers on both sides": the rows marked P, together, as one table about the definitions.
-- Assumes nothing.
use mathlib.Core.Path.{◌≡◌, refl}
use Prim.Native.Nat.{ℕ, zero-le}
use mathlib.Core.Bool.{Bool, true, false, cond}
use mathlib.Core.List.{[], ◌∷◌}
use lib.Dec.{ltb}
use borrow.Author.Tests.{le-ltb}
use Rattle.rules.specs.Column.{least_of, least}
use Rattle.rules.specs.Shape.{shape_of, shape}
use Rattle.rules.specs.Excess.{openings, closings, closing_place, excess, list_of, excesses, balanced_from, balanced, entry_between}
use Rattle.rules.specs.StandIn.{stand_in}
use Rattle.rules.specs.Bytes.{bit, bits, bytes_of, record_of, column_record, paren, low_bits, all_bits, entries, parens, unused}
use Rattle.rules.specs.Refusal.{answer, refusal}
use Rattle.rules.specs.Order.{frame_says, check_says, ask_says, column_after, stand_in_says}

same : {X : Type 0} (b : Bool) (x : X) → cond b x x ≡ x
same true x = refl
same false x = refl

pub record Numbers : Type 0 where
  pub no-entries : column_record [] ≡ 0x52 ∷ 0x4D ∷ 0 ∷ 0 ∷ []
  pub no-entries-ask : (i j : ℕ) → ask_says (0x52 ∷ 0x4D ∷ 0 ∷ 0 ∷ []) i j ≡ refusal 8
  pub seven : column_record (7 ∷ []) ≡ 0x52 ∷ 0x4D ∷ 1 ∷ 0 ∷ 0x01 ∷ []
  pub rising : column_record (1 ∷ 2 ∷ []) ≡ 0x52 ∷ 0x4D ∷ 2 ∷ 0 ∷ 0x05 ∷ []
  pub equal : column_record (5 ∷ 5 ∷ []) ≡ 0x52 ∷ 0x4D ∷ 2 ∷ 0 ∷ 0x05 ∷ []
  pub falling : column_record (2 ∷ 1 ∷ []) ≡ 0x52 ∷ 0x4D ∷ 2 ∷ 0 ∷ 0x03 ∷ []
  pub three : column_record (3 ∷ 1 ∷ 2 ∷ []) ≡ 0x52 ∷ 0x4D ∷ 3 ∷ 0 ∷ 0x13 ∷ []
  pub five : column_record (4 ∷ 2 ∷ 4 ∷ 2 ∷ 9 ∷ []) ≡ 0x52 ∷ 0x4D ∷ 5 ∷ 0 ∷ 0x33 ∷ 0x01 ∷ []
  pub five_0_4 : ask_says (0x52 ∷ 0x4D ∷ 5 ∷ 0 ∷ 0x33 ∷ 0x01 ∷ []) 0 4 ≡ answer 1
  pub five_1_3 : ask_says (0x52 ∷ 0x4D ∷ 5 ∷ 0 ∷ 0x33 ∷ 0x01 ∷ []) 1 3 ≡ answer 1
  pub five_2_4 : ask_says (0x52 ∷ 0x4D ∷ 5 ∷ 0 ∷ 0x33 ∷ 0x01 ∷ []) 2 4 ≡ answer 3
  pub five_2_2 : ask_says (0x52 ∷ 0x4D ∷ 5 ∷ 0 ∷ 0x33 ∷ 0x01 ∷ []) 2 2 ≡ answer 2
  pub five_stand_in : column_after (0x52 ∷ 0x4D ∷ 5 ∷ 0 ∷ 0x33 ∷ 0x01 ∷ []) (9 ∷ 9 ∷ 9 ∷ 9 ∷ 9 ∷ []) ≡ 1 ∷ 0 ∷ 1 ∷ 0 ∷ 0 ∷ []
  pub closes_first : check_says (0x52 ∷ 0x4D ∷ 1 ∷ 0 ∷ 0x02 ∷ []) ≡ refusal 7
  pub never-closes : check_says (0x52 ∷ 0x4D ∷ 1 ∷ 0 ∷ 0x03 ∷ []) ≡ refusal 7
  pub unused-bit : check_says (0x52 ∷ 0x4D ∷ 1 ∷ 0 ∷ 0x05 ∷ []) ≡ refusal 6

pub numbers : Numbers
unfolding least_of least shape_of shape openings closings closing_place excess list_of excesses balanced_from balanced entry_between stand_in bit bits bytes_of record_of column_record paren low_bits all_bits entries parens unused frame_says check_says ask_says column_after stand_in_says
numbers =
    record {
      no-entries = refl;
      no-entries-ask = λ i j. rw (le-ltb j 0 zero-le) (same (ltb j i) (refusal 8));
      seven = refl;
      rising = refl;
      equal = refl;
      falling = refl;
      three = refl;
      five = refl;
      five_0_4 = refl;
      five_1_3 = refl;
      five_2_4 = refl;
      five_2_2 = refl;
      five_stand_in = refl;
      closes_first = refl;
      never-closes = refl;
      unused-bit = refl;
    }
