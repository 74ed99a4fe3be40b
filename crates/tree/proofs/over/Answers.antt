-- `tree::over` meets its contract: the leaves' numbers have the same bits from the level that it computes on.
-- Assumes nothing.
use native.Mathlib.Omega.{arith}
use Rattle.tree.proofs.Meeting.{meets, over_both}
use Rattle.tree.proofs.over.Goals as goal

pub overflow_shr-l : goal.overflow_shr-l
overflow_shr-l c = omega (arith, (meets _ _ c.requires.0 c.requires.1).level)

pub returns : goal.returns
returns c =
    over_both _ _ c.requires.0 c.requires.1 (meets _ _ c.requires.0 c.requires.1) c.node.ensures.0 c.node.ensures.1
