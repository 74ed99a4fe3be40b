-- `stand_in::Walk::bits` meets its contract. The loop's invariant: what is left of the byte leads where all of it led.
-- Assumes nothing.
use mathlib.Core.Path.{◌≡◌}
use Prim.Native.Nat.{◌-◌}
use Rattle.rules.specs.Bytes.{low_bits}
use Rattle.stand_in.proofs.Walking.{Going}
use Rattle.stand_in.proofs.Walk.bits.Given as goal

abbrev pub invariant-loop : goal.invariant-loop
invariant-loop l =
    (l.self.column.ghost_name ≡ l.initial.self.column.ghost_name)
    × Going l.initial.self (low_bits l.count l.b) l.self (low_bits (l.count - l.counter) l.rest)
