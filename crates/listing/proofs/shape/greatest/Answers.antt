-- `listing::shape::greatest` meets its contract. The loop's invariant: the first k bytes are read.
-- Assumes nothing.
use mathlib.Core.Path.{refl}
use native.Mathlib.Omega.{arith}
use Rattle.listing.proofs.Turned.{none_turned, turned-ready, one-turned, all_turned}
use Rattle.listing.proofs.shape.greatest.Goals as goal

pub loop-k-init : goal.loop-k-init
loop-k-init c = none_turned _

pub byte-st-requires : goal.byte-st-requires
byte-st-requires c = (turned-ready c.loop-k.invariant c.requires c.loop-k-test.true, omega arith)

pub loop-k-preserved : goal.loop-k-preserved
loop-k-preserved c =
    one-turned c.loop-k.invariant _ c.loop-k-test.true refl (omega (arith, c.type_inv.body c.loop-k.k)) c.byte-st.ensures

pub overflow_sub-result : goal.overflow_sub-result
overflow_sub-result c = omega (arith, all_turned c.loop-k.invariant c.requires c.loop-k-test.false)

pub returns : goal.returns
returns c = omega (arith, all_turned c.loop-k.invariant c.requires c.loop-k-test.false)
