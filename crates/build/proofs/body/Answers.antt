-- `build::body` meets its contract: the invariant is `Turned`, an entry a turn. Assumes nothing.
use mathlib.Core.Path.{refl, ◌∙◌}
use native.Mathlib.Omega.{arith}
use borrow.Author.Rules.{rules}
use Rattle.build.proofs.Turning.{none_turned, one-turned, all_turned}
use Rattle.build.proofs.body.Goals as goal

pub loop-i-init : goal.loop-i-init
loop-i-init c = (refl, refl, none_turned _ _ _ c.requires)

pub loop-i-preserved : goal.loop-i-preserved
loop-i-preserved c = (
  c.closes.ensures.lent ∙ c.opens.ensures.lent ∙ c.loop-i.invariant.0,
  c.take.ensures.lent ∙ c.loop-i.invariant.1,
  one-turned c.loop-i.invariant.2 (omega arith) c.keeps-k.ensures c.opens.ensures.writes c.closes.ensures.writes c.take.ensures.places c.take.ensures.height c.take.ensures.top,
)

pub returns : goal.returns
returns c =
    all_turned c.loop-i.invariant.2 c.loop-i-test.false c.opens-2.ensures.writes (search rules)
