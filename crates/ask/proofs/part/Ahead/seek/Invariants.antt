-- `ask::part::Ahead::seek` meets its contract. The loop's invariant: here is the state before byte m, and the closing is not before it.
-- Assumes nothing.
use Rattle.ask.proofs.Seek.{Seeks}
use Rattle.ask.proofs.part.Ahead.seek.Given as goal

abbrev pub invariant-loop-m : goal.invariant-loop-m
invariant-loop-m l = Seeks l.fn.self.scan l.fn.self.at l.fn.self.bytes.now l.k l.here l.m
