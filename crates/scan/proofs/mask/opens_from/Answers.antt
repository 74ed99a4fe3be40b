-- `scan::mask::opens_from` meets its contract, by the test over every place of every byte.
-- Assumes nothing.
use borrow.Author.Rules.{rules}
use Rattle.scan.proofs.Masks.{opens_from as opens-law}
use Rattle.scan.proofs.mask.opens_from.Goals as goal

pub returns : goal.returns
returns c = opens-law c.args.k c.args.b c.requires (search rules)
