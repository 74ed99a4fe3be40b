-- `build::Spine::keeps` meets its contract. The invariant: from k on every place's entry is a or more. Assumes nothing.
use Rattle.build.proofs.Popping.{Pops}
use Rattle.build.proofs.spine.Spine.keeps.Given as goal

abbrev pub invariant-loop-k : goal.invariant-loop-k
invariant-loop-k l = Pops l.column l.self l.a l.k
