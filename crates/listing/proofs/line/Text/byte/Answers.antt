-- `Text::byte` meets its contract. Assumes nothing.
use Prim.Native.Nat.{◌+◌}
use native.Mathlib.Omega.{arith}
use Rattle.std.proofs.lemmas.List.{take_more_set, drop-set-lt}
use Rattle.listing.proofs.line.Text.byte.Goals as goal

pub returns-clause-writes : goal.returns-clause-writes
returns-clause-writes c =
    record {
      size = omega arith;
      text = take_more_set c.args.self.now.line.now c.args.self.now.used c.args.b (omega arith);
      behind = drop-set-lt (c.args.self.now.used + 1) c.args.self.now.line.now c.args.self.now.used c.args.b (omega arith);
    }
