-- Document 01, "The listing": what its rule amounts to. A drawer made by appends lists one line per record, with the column's n and shape; the
-- lines that the library writes one after the other are the listing; and no input allows two results.
use Rattle.std.specs.Prelude.{◌≡◌, ℕ, zero, suc, ◌+◌, ◌≤◌, length, take, Option, Some}
use mathlib.Core.List.{List, [], ◌∷◌, ◌++◌, flatten}
use Rattle.rules.specs.Shape.{shape}
use Rattle.rules.specs.Refusal.{answer}
use Rattle.rules.specs.Drawer.{append_says, buffer_after}
use Rattle.rules.specs.Listing.{shape_line, end_line, listing_lines, listing}
use Rattle.listing.specs.declared.Rest.{Rest}
use Rattle.listing.specs.Left.{lines_left, first_line, all_of, rest_after, Starts, Tells, WritesLine}

-- A buffer with u used bytes into which the columns cs were appended, one after the other
pub data Made : List ℕ → ℕ → List (List ℕ) → Type 0 where
  none : (b : List ℕ) → Made b 0 []
  more : (b : List ℕ) (u : ℕ) (cs : List (List ℕ)) (c w : List ℕ) (v : ℕ) → Made b u cs → append_says b u c (length w) ≡ answer v
      → Made (buffer_after b u c w) v (cs ++ (c ∷ []))

-- A line for each column, numbered from k on
unfoldable pub column_lines : ℕ → List (List ℕ) → List (List ℕ)
column_lines k [] = []
column_lines k (c ∷ cs) = shape_line k (length c) (shape c) ∷ column_lines (k + 1) cs

-- What m calls write, one after the other
unfoldable pub calls : ℕ → List ℕ → Option Rest → List (List ℕ)
calls zero d from = []
calls (suc m) d from = first_line (lines_left d from) ∷ calls m d (rest_after d from)

pub record Listed : Type 0 where
  -- "end 0"
  pub empty : listing [] ≡ 101 ∷ 110 ∷ 100 ∷ 32 ∷ 48 ∷ 10 ∷ []
  pub appended : (b : List ℕ) (u : ℕ) (cs : List (List ℕ)) → Made b u cs → listing_lines (take u b) ≡ column_lines 0 cs ++ (end_line (length cs) ∷ [])
  -- as many calls as there are lines, or more, write the text and nothing else
  pub whole : (d : List ℕ) (m : ℕ) → length (listing_lines d) ≤ m → flatten (calls m d (Some (all_of d))) ≡ listing d
  -- two results allowed for one input are equal
  pub start_once : (d : List ℕ) (x y : Rest) → Starts d x → Starts d y → x ≡ y
  pub next_once : (d : List ℕ) (from : Option Rest) (o : List ℕ) (s t : Option Rest) (u v : ℕ) (x y : List ℕ) → WritesLine d from o s u x → WritesLine d from o t v y
      → (s ≡ t) × (u ≡ v) × (x ≡ y)
  -- and two texts, whatever lines were lent
  pub text_once : (d : List ℕ) (from : Option Rest) (o p : List ℕ) (s t : Option Rest) (u v : ℕ) (x y : List ℕ) → WritesLine d from o s u x → WritesLine d from p t v y
      → (s ≡ t) × (take u x ≡ take v y)
  -- and two that tell the same line, wherever they stand
  pub told_once : (d : List ℕ) (from s t : Option Rest) (x y : List ℕ) → Tells d from s x → Tells d from t y → (s ≡ t) × (x ≡ y)
