-- Document 01, "The shape of a column" (source document 000, section 3, the rightmost-path mapping).
-- The recursion is on parts of the column, so it counts down a number that is large enough, the length. `shape_none` and `shape_some`
-- (proofs/Shape) are the document's two sentences, and nothing after them looks at the count.
use Rattle.std.specs.Prelude.{ℕ, zero, suc, List, [], ◌∷◌, ◌++◌, length, take, drop}
use Rattle.rules.specs.Column.{least}

pub data Paren : Type 0 where
  opening closing : Paren

-- with p the place of the leftmost smallest entry: an opening, the shape of the entries before p, a closing, the shape of the entries after p
unfoldable pub shape_of : ℕ → List ℕ → List Paren
shape_of zero c = []
shape_of (suc f) [] = []
shape_of (suc f) (a ∷ c) =
    let p = least (a ∷ c) 0 (length c) in
    opening ∷ shape_of f (take p (a ∷ c)) ++ closing ∷ shape_of f (drop (suc p) (a ∷ c))

unfoldable pub shape : List ℕ → List Paren
shape c = shape_of (length c) c
