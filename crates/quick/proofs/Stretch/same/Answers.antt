-- `quick::Stretch::same` meets its contract: from closing to closing of one block; nothing is scanned where closing i is low enough.
-- Assumes nothing.
use mathlib.Core.Path.{refl, ap}
use Prim.Native.Nat.{◌+◌}
use native.Mathlib.Nat.{le_refl}
use native.Mathlib.Omega.{arith}
use Rattle.rules.specs.Refusal.{answer}
use Rattle.quick.specs.Quick.{closing_in}
use Rattle.quick.specs.Stretch.{body, numbers}
use Rattle.quick.proofs.Ours.{closings-order}
use Rattle.quick.proofs.Middle.{named}
use Rattle.quick.proofs.Joined.{leaf-floor, lowest_first, inside}
use Rattle.quick.proofs.Stretch.same.Goals as goal

pub returns-then-first-low : goal.returns-then-first-low
returns-then-first-low c =
    let s = c.args.self.now in
    record {
      allowed = (le_refl _, s.order);
      right = λ n asks.
          let first = c.in_ok-first.ensures.right n asks in
          let last = asks.last in
          ap answer (lowest_first s n asks c.in_ok-first.first first.0 first.1 c.leaf-low.result (leaf-floor s n asks c.in_ok-first.first first.0 first.1 c.leaf-low.result c.leaf-low.ensures.0 (closing_in (body s.lent) n s.j + 1) (omega arith) (le_refl _)) c.if-first-low.true);
    }

pub returns-then-y-first : goal.returns-then-y-first
returns-then-y-first c =
    let s = c.args.self.now in
    record {
      allowed = refl;
      right = λ n asks.
          absurd (omega (arith, c.if-y-first.true, (c.in_ok-first.ensures.right n asks).0, c.in_ok-y.ensures.right n asks.ours asks.among (omega (arith, asks.last)), closings-order (body s.lent) (numbers s.lent) n asks.ours s.i s.j s.order asks.among));
    }

pub returns : goal.returns
returns c =
    let s = c.args.self.now in
    record {
      allowed = c.entry.ensures.allowed;
      right = λ n asks.
          let first = c.in_ok-first.ensures.right n asks in
          named s n asks c.entry.ensures (inside s n asks c.in_ok-first.first first.0 first.1 c.leaf-low.result c.leaf-low.ensures.0 c.requires c.in_ok-y.y c.within.result (c.in_ok-y.ensures.right n asks.ours asks.among (omega (arith, asks.last))) c.within.ensures);
    }
