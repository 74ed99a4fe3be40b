-- `window::make` meets its contract: all is kept, or nothing where the window is refused. Assumes nothing.
use mathlib.Core.Path.{sym}
use Rattle.rules.proofs.Window.{stands_keeps, refused_keeps}
use Rattle.window.proofs.make.Goals as goal

pub returns-in-Ok : goal.returns-in-Ok
returns-in-Ok c =
    let (b, f, l) = stands_keeps c.args.bytes.now c.args.first c.args.last (sym c.in-Ok.ensures) in
    record { bytes = sym b; first = sym f; last = sym l }

pub returns-in-Err : goal.returns-in-Err
returns-in-Err c =
    let (b, f, l) = refused_keeps c.args.bytes.now c.args.first c.args.last (sym c.in-Err.ensures) in
    record { bytes = sym b; first = sym f; last = sym l }
