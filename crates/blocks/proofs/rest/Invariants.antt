-- `blocks::rest`: of the closings asked for, those of the bytes so far are passed.
use Rattle.blocks.proofs.Selects.{Left}
use Rattle.blocks.proofs.rest.Given as goal

abbrev pub invariant-loop-m : goal.invariant-loop-m
invariant-loop-m l = Left l.part l.m l.left l.k
