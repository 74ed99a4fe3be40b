-- `words::word` meets its contract.
-- Assumes nothing.
use mathlib.Core.Path.{◌≡◌}
use Prim.Native.Nat.{◌+◌, ◌-◌}
use native.Mathlib.Omega.{arith}
use lib.ListN.{take, drop, length-take, length-drop}
use Rattle.std.proofs.lemmas.List.{get_or-take, get_or-drop}
use Rattle.words.proofs.Loaded.{loaded}
use Rattle.words.proofs.word.Goals as goal

pub returns : goal.returns
returns c =
    let bs = c.args.part.now in
    let at = c.args.at in
    let same = (rw c.unwrap-eight.ensures at c.try_from.ensures.1).same in
    let e : at + 8 - at ≡ 8 = omega arith in
    let f = rw e at same in
    rw (c.from_le_bytes.ensures, f)
    (loaded (take 8 (drop at bs)) (simp (length-take, length-drop) (omega arith)) (λ k h. rw (get_or-take, get_or-drop) (c.type_inv.part (at + k)).fits))
