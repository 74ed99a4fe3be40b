-- What of a listing is still to be written, and one line of it.
use Rattle.std.specs.Prelude.{◌≡◌, ℕ, ◌+◌, ◌-◌, ◌≤◌, cond, List, [], ◌∷◌, ◌++◌, ltb, length, take, drop, Option, Some, None}
use Rattle.rules.specs.Bytes.{record_length}
use Rattle.rules.specs.Refusal.{Outcome, answer, refusal}
use Rattle.rules.specs.Order.{frame_says}
use Rattle.rules.specs.Drawer.{most_bytes, most_records}
use Rattle.rules.specs.Listing.{end_line, long_line, lines_from, ended_lines, listing_lines}
use Rattle.listing.specs.Room.{line_room}
use Rattle.listing.specs.declared.Rest.{Rest}
use Rattle.listing.specs.declared.Rest.TheVariants.{Lines, End, Long}

-- the lines that are left of the listing of d
abbrev pub lines_of : List ℕ → Rest → List (List ℕ)
lines_of d (Lines k at) = ended_lines k (lines_from (most_records - k) k (drop at d))
lines_of d (End c) = end_line c ∷ []
lines_of d Long = long_line ∷ []

abbrev pub lines_left : List ℕ → Option Rest → List (List ℕ)
lines_left d None = []
lines_left d (Some from) = lines_of d from

-- the first of some lines, nothing where there is none; and the others
abbrev pub first_line : List (List ℕ) → List ℕ
first_line [] = []
first_line (l ∷ ls) = l

abbrev pub other_lines : List (List ℕ) → List (List ℕ)
other_lines [] = []
other_lines (l ∷ ls) = ls

-- ---- the values that stand for what is left

unfoldable pub all_of : List ℕ → Rest
all_of d = cond (ltb most_bytes (length d)) Long (Lines 0 0)

abbrev pub behind_frame : ℕ → ℕ → Outcome → Rest
behind_frame k at (answer n) = Lines (k + 1) (at + record_length n)
behind_frame k at (refusal x) = End (k + 1)

unfoldable pub behind_line : List ℕ → ℕ → ℕ → Option Rest
behind_line d k at =
    cond (ltb at (length d)) (Some (cond (ltb k most_records) (behind_frame k at (frame_says (drop at d))) (End (k + 1)))) None

abbrev pub rest_of : List ℕ → Rest → Option Rest
rest_of d (Lines k at) = behind_line d k at
rest_of d (End c) = None
rest_of d Long = None

abbrev pub rest_after : List ℕ → Option Rest → Option Rest
rest_after d None = None
rest_after d (Some from) = rest_of d from

-- ---- the contracts

-- nothing is written yet
pub record Starts (d : List ℕ) (r : Rest) : Type 0 where
  pub lines : lines_of d r ≡ listing_lines d
  pub value : r ≡ all_of d

-- the text t is the first line that is left, nothing where none was left; the others are left then
pub record Tells (d : List ℕ) (from : Option Rest) (r : Option Rest) (t : List ℕ) : Type 0 where
  pub text : t ≡ first_line (lines_left d from)
  pub lines : lines_left d r ≡ other_lines (lines_left d from)
  pub value : r ≡ rest_after d from

-- the first line that is left stands at the start of the lent line, nothing where none was left, and no byte behind it has changed; the
-- others are left then
pub record WritesLine (d : List ℕ) (from : Option Rest) (o : List ℕ) (r : Option Rest) (used : ℕ) (o' : List ℕ) : Type 0 where
  pub size : used ≡ length (first_line (lines_left d from))
  pub room : used ≤ line_room
  pub text : take used o' ≡ first_line (lines_left d from)
  pub out : o' ≡ first_line (lines_left d from) ++ drop (length (first_line (lines_left d from))) o
  pub lines : lines_left d r ≡ other_lines (lines_left d from)
  pub value : r ≡ rest_after d from
