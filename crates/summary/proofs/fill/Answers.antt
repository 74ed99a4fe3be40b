-- `summary::fill` meets its contract: a refusal of the check is passed on, then 3, then the slots.
-- Assumes nothing.
use mathlib.Core.Path.{◌≡◌, sym}
use Prim.Native.Nat.{◌<◌}
use native.Mathlib.Omega.{arith}
use lib.ListN.{length, length-append, length-replicate, length-take, length-drop, get_or-append}
use lib.Seq.{length-take-le}
use Rattle.answers.proofs.Said.{handed_on}
use Rattle.summary.proofs.Slots.{written}
use Rattle.summary.proofs.Filled.{filled, refused, refused-short}
use Rattle.summary.proofs.fill.Goals as goal

pub returns-in_err-checked : goal.returns-in_err-checked
returns-in_err-checked c =
    rw (handed_on c.from_residual.result c.in_err-checked.field-0.0 c.from_residual.ensures.1) (refused _ _ (sym c.in_err-checked.ensures.says))

pub returns-in_default : goal.returns-in_default
returns-in_default c =
    refused-short (sym c.in_ok-checked.ensures.says) c.in_default.ensures.cases

pub returns : goal.returns
returns c =
    let chunk = c.in-Some.ensures.cases in
    let long : length c.in-Some.slots.now ≡ 896 = rw chunk.same (length-take-le 896 _ chunk.enough) in
    let each = c.fill.ensures.after (λ y e. e) in
    filled (sym c.in_ok-checked.ensures.says) chunk.enough (rw c.in_ok-checked.ensures.keeps at c.blocks-2.ensures) c.tree.ensures
    (record {
      size = simp (length-append, length-drop, each, length-replicate, length-take) (omega (arith, long));
      first =
          λ x h.
          let within : x < length c.fill.new.self = omega (arith, c.fill.ensures.len, long) in
          let here = written c.fill.new.self _ x each within in
          grind (arith, get_or-append, here);
    })
