-- `quick::part::Body::whole` meets its contract: the block's bytes.
-- Assumes nothing.
use Rattle.quick.proofs.Closings.{whole_all}
use Rattle.quick.proofs.part.Body.whole.Goals as goal

pub returns : goal.returns
returns c =
    let a = c.args in
    whole_all a.self a.k a.stop (record { excess = a.e; smallest = 1048576; place = 0 }) c.run.result c.requires.1 c.end_of-end.result c.end_of-end.ensures c.run.ensures
