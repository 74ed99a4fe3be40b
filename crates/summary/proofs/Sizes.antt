-- How long a checked record is.
-- Assumes nothing.
use mathlib.Core.Path.{◌≡◌}
use Prim.Native.Nat.{◌+◌, ◌/◌, ◌≤◌}
use native.Mathlib.Omega.{arith}
use lib.ListN.{length}
use Rattle.rules.proofs.Checked.{says_checked}
use Rattle.checks.specs.declared.record.Record.{Record}

pub few : (r : Record) → r.entries ≤ 32768
few r = (says_checked r.bytes.now r.entries r.accepted).framed.few

pub blocks : (r : Record) → r.entries / 128 ≤ 256
blocks r = omega (arith, few r)

pub exact : (r : Record) → length r.bytes.now ≡ 4 + (r.entries + 3) / 4
exact r = (says_checked r.bytes.now r.entries r.accepted).whole
