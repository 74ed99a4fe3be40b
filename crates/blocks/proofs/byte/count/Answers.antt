-- `blocks::byte::count` meets its contract.
-- Assumes nothing.
use mathlib.Core.Path.{◌≡◌, ap}
use Prim.Native.Nat.{ℕ, ◌+◌, ◌*◌, ◌%◌, ◌^◌, ◌<◌}
use native.Mathlib.Omega.{arith}
use lib.Count.{ones}
use lib.Pow.{pow_pos}
use Rattle.std.proofs.lemmas.Nat.{shl_whole, mod_below}
use Rattle.rules.specs.Excess.{closings}
use Rattle.rules.specs.Bytes.{low_bits}
use Rattle.words.proofs.Low.{low_bits_low}
use Rattle.words.proofs.Ones.{ones_close}
use Rattle.blocks.proofs.byte.count.Goals as goal

-- of the w lowest bits each is set or a closing
each : (x w : ℕ) → w < 64 → ones (x % (1 * 2 ^ w % 2 ^ 64)) + closings (low_bits w x) ≡ w
each x w h =
    let e : 1 * 2 ^ w % 2 ^ 64 ≡ 2 ^ w = omega (arith, shl_whole 1 1 w 64 (omega arith) (omega arith)) in
    rw e (omega (arith, ones_close w (x % 2 ^ w) (mod_below x (2 ^ w) (pow_pos w)), ap closings (low_bits_low w x)))

pub overflow_sub-result : goal.overflow_sub-result
overflow_sub-result c = omega (arith, each c.args.bits c.args.w c.requires)

pub returns : goal.returns
returns c = omega (arith, each c.args.bits c.args.w c.requires)
