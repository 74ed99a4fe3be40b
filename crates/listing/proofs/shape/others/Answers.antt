-- `listing::shape::others` meets its contract: the sign of each parenthesis stands in its place.
-- Assumes nothing.
use Prim.Native.Nat.{◌<◌}
use native.Mathlib.Omega.{arith}
use borrow.Author.Count.{below_more}
use lib.ListN.{length}
use Rattle.std.proofs.Common.{◌≢◌, get_or-set_other, get_or-set_same}
use Rattle.std.proofs.lemmas.Grind.{same_number_lists}
use Rattle.rules.proofs.Checked.{says_checked}
use Rattle.listing.proofs.Parens.{readable, signs_length, sign_at}
use Rattle.listing.proofs.shape.others.Goals as goal

pub bit-requires : goal.bit-requires
bit-requires c =
    let r = readable (says_checked _ _ c.args.checked.accepted) in
    (r.short, r.body _ (omega arith))

pub loop-b-preserved : goal.loop-b-preserved
loop-b-preserved c =
    let within : c.loop-b.b < length c.loop-b.out = omega arith in
    below_more _ _
    (λ j h. let ne : j ≢ c.loop-b.b = omega arith in rw get_or-set_other (c.loop-b.invariant j h))
    (rw get_or-set_same (omega (arith, c.bit.ensures, sign_at (says_checked _ _ c.args.checked.accepted) c.loop-b.b (omega arith))))

pub returns : goal.returns
returns c =
    let signs = signs_length (says_checked _ _ c.args.checked.accepted) in
    same_number_lists _ _ (omega (arith, signs)) (λ j h. c.loop-b.invariant j (omega arith))
