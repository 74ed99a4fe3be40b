-- `scan::mask::closed` meets its contract, by the test over every place of every byte.
-- Assumes nothing.
use borrow.Author.Rules.{rules}
use Rattle.scan.proofs.Masks.{clear-made}
use Rattle.scan.proofs.mask.closed.Goals as goal

pub overflow_cast-result-2 : goal.overflow_cast-result-2
overflow_cast-result-2 c = record { fits = (clear-made c.args.k c.args.b c.requires (search rules)).byte }

pub returns : goal.returns
returns c = (clear-made c.args.k c.args.b c.requires (search rules)).bits
