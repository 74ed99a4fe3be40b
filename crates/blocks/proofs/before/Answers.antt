-- `blocks::before` meets its contract.
-- Assumes nothing.
use mathlib.Core.Path.{◌∙◌}
use Prim.Native.Nat.{◌-◌}
use native.Mathlib.Omega.{arith}
use Rattle.blocks.proofs.Standing.{before_right}
use Rattle.blocks.proofs.before.Goals as goal

pub returns : goal.returns
returns c =
    record {
      bound = omega (arith, c.from.ensures, c.type_inv.ends (c.args.k - 1));
      first = λ e. absurd (c.if-k-eq0.false e);
      later = λ h. c.from.ensures;
      right = λ s n own h l. c.from.ensures ∙ before_right own c.args.k h l;
    }
