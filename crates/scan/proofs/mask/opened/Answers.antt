-- `scan::mask::opened` meets its contract, by the test over every place of every byte.
-- Assumes nothing.
use borrow.Author.Rules.{rules}
use Rattle.scan.proofs.Masks.{place_small, raise-made}
use Rattle.scan.proofs.mask.opened.Goals as goal

pub overflow_sub-result : goal.overflow_sub-result
overflow_sub-result c = place_small c.args.k c.requires

pub overflow_cast-result-2 : goal.overflow_cast-result-2
overflow_cast-result-2 c = record { fits = (raise-made c.args.k c.args.b c.requires (search rules)).byte }

pub returns : goal.returns
returns c = (raise-made c.args.k c.args.b c.requires (search rules)).bits
