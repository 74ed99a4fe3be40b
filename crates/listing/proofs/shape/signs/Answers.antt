-- `listing::shape::signs` meets its contract: eight signs more stand behind those of the bytes before.
-- Assumes nothing.
use Prim.Native.Nat.{◌*◌}
use native.Mathlib.Omega.{arith}
use mathlib.Core.Path.{◌∙◌}
use Rattle.rules.proofs.Checked.{says_checked}
use Rattle.listing.proofs.Parens.{readable, eight_more}
use Rattle.listing.proofs.shape.signs.Goals as goal

pub bounds-checked-k : goal.bounds-checked-k
bounds-checked-k c =
    let r = readable (says_checked _ _ c.args.checked.accepted) in
    let b = r.body (8 * c.loop-k.k) (omega arith) in
    omega arith

pub loop-k-preserved : goal.loop-k-preserved
loop-k-preserved c =
    eight_more (says_checked _ _ c.args.checked.accepted) c.loop-k.out _ c.loop-k.k _ (omega arith) (omega arith) (omega arith) (c.copy_from_slice.ensures.after ∙ c.eight.ensures) c.loop-k.invariant
