-- `blocks::word::counts` meets its contract: no byte reaches into the next.
-- Assumes nothing.
use Rattle.blocks.proofs.Counts.{counted}
use Rattle.blocks.proofs.word.counts.Goals as goal

pub returns : goal.returns
returns c = counted c.args.x c.ranges.x.fits
