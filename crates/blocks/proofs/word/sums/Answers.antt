-- `blocks::word::sums` meets its contract: the counts, added up byte by byte.
-- Assumes nothing.
use Rattle.blocks.proofs.Sums.{sums-made}
use Rattle.blocks.proofs.word.sums.Goals as goal

pub overflow_add-d : goal.overflow_add-d
overflow_add-d c = record { fits = rw c.counts-c.ensures (sums-made c.args.x).once_fits }

pub overflow_add-e : goal.overflow_add-e
overflow_add-e c = record { fits = rw c.counts-c.ensures (sums-made c.args.x).twice_fits }

pub overflow_add-result : goal.overflow_add-result
overflow_add-result c =
    record { fits = rw (c.counts-c.ensures, (sums-made c.args.x).right) (sums-made c.args.x).fits }

pub returns : goal.returns
returns c = rw c.counts-c.ensures (sums-made c.args.x).right
