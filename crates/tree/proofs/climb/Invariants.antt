-- `tree::climb`: what the two sides have passed so far.
use Rattle.tree.proofs.Climbing.{Climbing}
use Rattle.tree.proofs.climb.Given as goal

abbrev pub invariant-loop-h : goal.invariant-loop-h
invariant-loop-h l = Climbing l.t.numbers.now l.a l.b l.l l.r l.h l.best
