-- `drawer::which` meets its contract: it says of the choice which drawer made it.
-- Assumes nothing.
use mathlib.Core.Path.{ap}
use Rattle.std.proofs.lemmas.Result.{err_from_is_err_and}
use Rattle.rules.specs.Drawer.{whence, which_says}
use Rattle.drawer.proofs.which.Goals as goal

pub returns-in_err-choose : goal.returns-in_err-choose
unfolding which_says
returns-in_err-choose c =
    let p = err_from_is_err_and c.from_residual.result c.from_residual.ensures.1 in
    rw (p.1, p.2) (ap whence c.in_err-choose.ensures)

pub returns : goal.returns
unfolding which_says
returns c = ap whence c.in_ok-choose.ensures
