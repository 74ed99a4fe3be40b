-- `drawer::find` meets its contract. The loop's invariant: what is sought from this place on, with the records left to pass, is what find
-- says. Assumes nothing.
use mathlib.Core.Path.{◌≡◌}
use Prim.Native.Nat.{◌-◌}
use Rattle.rules.specs.Drawer.{seek, find_says}
use Rattle.drawer.proofs.find.Given as goal

abbrev pub invariant-loop : goal.invariant-loop
invariant-loop l = seek l.drawer (l.r - l.counter) l.at ≡ find_says l.drawer l.r
