-- What of a listing has gone to a writer, and what one more line adds to it.
-- Assumes nothing.
use mathlib.Core.Path.{◌≡◌, refl, sym, ap, ◌∙◌}
use Prim.Native.Nat.{ℕ}
use mathlib.Core.List.{List, [], ◌∷◌, ◌++◌, append_assoc, append-nil, flatten}
use lib.ListN.{take}
use Rattle.std.specs.Prelude.{true, false, Option, None, Some}
use Rattle.std.specs.Option.{is_some}
use Rattle.std.specs.Io.KnownBytes.{Appends}
use Rattle.listing.specs.declared.Rest.{Rest}
use Rattle.listing.specs.Left.{lines_left, first_line, other_lines, WritesLine}

-- of a whole text the writer has all but what is left
abbrev pub Gone : Option (List ℕ) → Option (List ℕ) → List ℕ → List ℕ → Type 0
Gone old new left whole = (t : List ℕ) × Appends old new t × (t ++ left ≡ whole)

pub appends_none : (a : Option (List ℕ)) → Appends a a []
appends_none None = tt
appends_none (Some xs) = sym (append-nil xs)

appends_more : (a b c : Option (List ℕ)) (s t : List ℕ) → Appends a b s → Appends b c t → Appends a c (s ++ t)
appends_more None b c s t h k = tt
appends_more (Some xs) None c s t h k = absurd h
appends_more (Some xs) (Some ys) None s t h k = absurd k
appends_more (Some xs) (Some ys) (Some zs) s t h k = rw (k, h) (append_assoc xs s t)

-- ---- one line more

first_and_others : (ls : List (List ℕ)) → flatten ls ≡ first_line ls ++ flatten (other_lines ls)
unfolding flatten
first_and_others [] = refl
first_and_others (l ∷ ls) = refl

pub one_more : (a b c : Option (List ℕ)) {d o o' t whole : List ℕ} {from r : Option Rest} {used : ℕ}
    → WritesLine d from o r used o' → t ≡ take used o' → Gone a b (flatten (lines_left d from)) whole → Appends b c t → Gone a c (flatten (lines_left d r)) whole
one_more a b c {d} {t = t} {from = from} {r} w e g k =
    let both : t ++ flatten (lines_left d r) ≡ flatten (lines_left d from) = rw (e, w.text, w.lines) (sym (first_and_others (lines_left d from))) in
    (g.0 ++ t, appends_more a b c g.0 t g.1 k, append_assoc g.0 t (flatten (lines_left d r)) ∙ ap (λ x. g.0 ++ x) both ∙ g.2)

-- where no line is left the writer has all
pub no_more : (a b : Option (List ℕ)) (d : List ℕ) {whole : List ℕ} (rest : Option Rest) → false ≡ is_some rest → Gone a b (flatten (lines_left d rest)) whole
    → Appends a b whole
unfolding flatten
no_more a b d {whole = whole} None h g =
    let is : g.0 ≡ whole = sym (append-nil g.0) ∙ g.2 in
    rw (sym is) g.1
no_more a b d (Some from) h g = absurd (let x : false ≡ true = h in cc)
