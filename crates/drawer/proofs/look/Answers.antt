-- `drawer::look` meets its contract: what was chosen lies within the drawer that it names.
-- Assumes nothing.
use mathlib.Core.Path.{sym}
use Prim.Native.Nat.{ℕ, ◌+◌, ◌≤◌}
use mathlib.Core.List.{List}
use lib.ListN.{length}
use Rattle.rules.specs.Drawer.{part}
use Rattle.rules.proofs.Drawer.{found_within, Found_in, look-found}
use Rattle.drawer.specs.declared.Drawer.{Drawer}
use Rattle.drawer.specs.declared.Drawer.TheVariants.{Own, Shared}
use Rattle.drawer.specs.Said.{said_drawer, the_one}
use Rattle.drawer.proofs.look.Goals as goal

within : (w : Drawer) (d s : List ℕ) (r p l : ℕ) → Found_in d s r (part (said_drawer w) p l) → p + l ≤ length (the_one w d s)
within Own d s r p l e = (found_within d r p l e).within
within Shared d s r p l e = (found_within s r p l e).within

pub part-requires : goal.part-requires
part-requires c =
    rw c.of.ensures (within c.in-Ok.choice.from _ _ c.args.r _ _ (rw (sym c.in-Ok.ensures) at (look-found c.args.own.now c.args.shared.now c.args.r)))
