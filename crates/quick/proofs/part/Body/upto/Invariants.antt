-- `quick::part::Body::upto` meets its contract. The loop's invariant: the bytes of the block before byte m are read, and the closing does not stand in them.
-- Assumes nothing.
use Rattle.quick.proofs.Reaching.{Walks}
use Rattle.quick.proofs.part.Body.upto.Given as goal

abbrev pub invariant-loop-m : goal.invariant-loop-m
invariant-loop-m l = Walks l.fn.self l.k l.j l.initial.here l.m l.here
