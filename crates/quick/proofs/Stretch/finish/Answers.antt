-- `quick::Stretch::finish` meets its contract: nothing to gain, or the part of the last block.
-- Assumes nothing.
use Rattle.quick.proofs.Finishing.{not_lower, finished}
use Rattle.quick.proofs.Stretch.finish.Goals as goal

pub returns-then-best-low : goal.returns-then-best-low
returns-then-best-low c = not_lower c.args.self.now c.leaf-low.result c.leaf-low.ensures.0 c.args.best c.if-best-low.true

pub returns : goal.returns
returns c =
    finished c.args.self.now c.leaf-low.result c.leaf-low.ensures.0 c.args.best c.before-2.result c.upto.result c.before-2.ensures c.upto.ensures
