-- `drawer::hand_out` meets its contract: what find has found lies within the drawer.
-- Assumes nothing.
use mathlib.Core.Path.{sym}
use native.Mathlib.Omega.{arith}
use Rattle.rules.specs.Drawer.{hand_out}
use Rattle.rules.proofs.Drawer.{found_within}
use Rattle.drawer.proofs.hand_out.Goals as goal

pub part-requires : goal.part-requires
part-requires c = omega (arith, found_within _ _ _ _ (sym c.in-Ok.ensures))

pub returns-in-Ok : goal.returns-in-Ok
unfolding hand_out
returns-in-Ok c = rw (← c.in-Ok.ensures) c.part.ensures

pub returns-in-Err : goal.returns-in-Err
unfolding hand_out
returns-in-Err c = rw (← c.in-Err.ensures)
