-- `ask::part::Ahead::through` meets its contract: the whole bytes before the closing's, then the closing's up to and with it.
-- Assumes nothing.
use mathlib.Core.Path.{◌∙◌}
use native.Mathlib.Omega.{arith}
use Rattle.ask.proofs.Seek.{stop_ready, stop_through}
use Rattle.ask.proofs.part.Ahead.through.Goals as goal

pub upto-requires : goal.upto-requires
upto-requires c = (stop_ready c.args.self c.seek-stop.ensures, omega arith, omega arith, omega arith)

pub returns : goal.returns
returns c = c.upto.ensures ∙ stop_through c.args.self c.seek-stop.ensures
