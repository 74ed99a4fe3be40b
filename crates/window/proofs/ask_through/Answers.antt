-- `window::ask_through` meets its contract: an ask in the window that was made. Assumes nothing.
use mathlib.Core.Path.{◌∙◌}
use Rattle.window.proofs.Windows.{windows}
use Rattle.window.proofs.ask_through.Goals as goal

pub returns : goal.returns
returns c = c.ask_in.ensures ∙ windows.made c.args.bytes.now c.args.first c.args.last c.args.i c.args.j c.make.result c.make.ensures
