-- `quick::Stretch::between` meets its contract: one block or two; nothing is scanned where closing i is low enough.
-- Assumes nothing.
use mathlib.Core.Path.{ap}
use Prim.Native.Nat.{◌+◌}
use native.Mathlib.Nat.{le_refl}
use Rattle.rules.specs.Refusal.{answer}
use Rattle.quick.proofs.Joined.{over_floor, lowest_first}
use Rattle.quick.proofs.Stretch.between.Goals as goal

pub returns-then-first-low : goal.returns-then-first-low
returns-then-first-low c =
    let s = c.args.self.now in
    record {
      allowed = (le_refl _, s.order);
      right = λ n asks.
          let first = c.in_ok-first.ensures.right n asks in
          ap answer (lowest_first s n asks c.in_ok-first.first first.0 first.1 (131072 + c.over-low.result) (over_floor s n asks c.over-low.result c.over-low.ensures) c.if-first-low.true);
    }
