-- `listing::lines::accepted` meets its contract.
-- Assumes nothing.
use native.Mathlib.Omega.{arith}
use mathlib.Core.List.{append_assoc}
use Rattle.rules.specs.Listing.{shape_line}
use Rattle.rules.proofs.Checked.{says_checked}
use Rattle.listing.proofs.Parens.{readable, short-body, greatest_parens, shown_length}
use Rattle.listing.proofs.Writing.{anew_more, anew_same}
use Rattle.listing.proofs.lines.accepted.Goals as goal

pub slice_bounds-greatest-count : goal.slice_bounds-greatest-count
slice_bounds-greatest-count c = (readable (says_checked _ _ c.args.checked.accepted)).head

pub slice_bounds-greatest-start : goal.slice_bounds-greatest-start
slice_bounds-greatest-start c = (readable (says_checked _ _ c.args.checked.accepted)).head

pub greatest-requires : goal.greatest-requires
greatest-requires c = short-body (says_checked _ _ c.args.checked.accepted)

pub shape-requires : goal.shape-requires
shape-requires c =
    omega (arith, readable (says_checked _ _ c.args.checked.accepted), c.clear.ensures.anew.size, c.field.ensures.short, c.field-2.ensures.short, c.field-3.ensures.short)

pub word-requires : goal.word-requires
word-requires c =
    let k = says_checked _ _ c.args.checked.accepted in
    omega (arith, readable k, shown_length k, c.clear.ensures.anew.size, c.field.ensures.short, c.field-2.ensures.short, c.field-3.ensures.short, c.shape.ensures.writes.size)

pub returns-clause-anew : goal.returns-clause-anew
unfolding shape_line
returns-clause-anew c =
    anew_same (anew_more (anew_more (anew_more (anew_more (anew_more c.clear.ensures.anew c.field.ensures.writes) c.field-2.ensures.writes) c.field-3.ensures.writes) c.shape.ensures.writes) c.word.ensures.writes)
    (rw (c.greatest.ensures, greatest_parens (says_checked _ _ c.args.checked.accepted)) (simp append_assoc))
