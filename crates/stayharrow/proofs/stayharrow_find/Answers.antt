-- `stayharrow::stayharrow_find` meets its contract: place and length have room.
-- Assumes nothing.
use mathlib.Core.Path.{◌≡◌, sym, ap, ◌∙◌}
use native.Mathlib.Omega.{arith}
use Rattle.rules.specs.Drawer.{found, find_says}
use Rattle.drawer.specs.Said.{said_found}
use Rattle.stayharrow.proofs.Decoded.{has_room}
use Rattle.stayharrow.proofs.stayharrow_find.Goals as goal

pub overflow_mul-result : goal.overflow_mul-result
overflow_mul-result c =
    let at : let a = c.args in find_says a.drawer.now a.r ≡ found c.in-Ok.part.at c.in-Ok.part.size = sym c.find.ensures ∙ ap said_found c.in-Ok.is in
    let a = c.args in omega (arith, rw at at (has_room.find a.drawer.now a.r))

pub overflow_add-result : goal.overflow_add-result
overflow_add-result c =
    let at : let a = c.args in find_says a.drawer.now a.r ≡ found c.in-Ok.part.at c.in-Ok.part.size = sym c.find.ensures ∙ ap said_found c.in-Ok.is in
    let a = c.args in omega (arith, rw at at (has_room.find a.drawer.now a.r))
