-- `blocks::select`: of the closings asked for, those of the first m eights of bytes are passed.
use Prim.Native.Nat.{◌*◌}
use Rattle.blocks.proofs.Selects.{Left}
use Rattle.blocks.proofs.select.Given as goal

abbrev pub invariant-loop-m : goal.invariant-loop-m
invariant-loop-m l = Left l.part (8 * l.m) l.left l.k
