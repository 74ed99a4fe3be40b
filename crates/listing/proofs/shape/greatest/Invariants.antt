-- `listing::shape::greatest` meets its contract. The loop's invariant: the first k bytes are read.
-- Assumes nothing.
use Rattle.listing.proofs.Turned.{Turning}
use Rattle.listing.proofs.shape.greatest.Given as goal

abbrev pub invariant-loop-k : goal.invariant-loop-k
invariant-loop-k l = Turning l.body l.st l.k
