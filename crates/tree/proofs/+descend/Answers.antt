-- `tree::descend` meets its contract. The measure is the level; the half to which it goes is `Half`'s.
-- Assumes nothing.
use native.Mathlib.Omega.{arith}
use Rattle.tree.proofs.Nodes.{inner, half_within, descend_half}
use Rattle.tree.proofs.+descend.Goals as goal

pub half-requires : goal.half-requires
half-requires t c = inner c.if-level-eq0.false c.requires

pub descend-requires : goal.descend-requires
descend-requires t c = (omega arith, half_within c.half.ensures (omega arith) c.requires)

pub returns : goal.returns
returns t c = descend_half c.half.ensures (omega arith) c.requires c.descend.ensures
