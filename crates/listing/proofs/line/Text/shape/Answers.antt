-- `Text::shape` meets its contract: the signs go behind what is used.
-- Assumes nothing.
use mathlib.Core.Path.{◌≡◌}
use Prim.Native.Nat.{◌*◌}
use native.Mathlib.Omega.{arith}
use mathlib.Core.List.{map}
use lib.ListN.{length}
use Rattle.rules.specs.Bytes.{parens}
use Rattle.rules.specs.Listing.{sign}
use Rattle.rules.proofs.Checked.{says_checked}
use Rattle.listing.proofs.Parens.{shown_none, shown_some, signs_length}
use Rattle.listing.proofs.Writing.{part_text, part_behind}
use Rattle.listing.proofs.line.Text.shape.Goals as goal

pub returns-then-checked-eq0-clause-writes : goal.returns-then-checked-eq0-clause-writes
returns-then-checked-eq0-clause-writes c =
    rw (shown_none _ (parens c.args.checked.entries c.args.checked.bytes.now) c.if-checked-eq0.true) c.byte.ensures.writes

pub returns-clause-writes : goal.returns-clause-writes
returns-clause-writes c =
    let b = c.args.self.now.line.now in
    let u = c.args.self.now.used in
    let m = 2 * c.args.checked.entries in
    let t = map sign (parens c.args.checked.entries c.args.checked.bytes.now) in
    let l : length t ≡ m = signs_length (says_checked _ _ c.args.checked.accepted) in
    rw (shown_some _ (parens c.args.checked.entries c.args.checked.bytes.now) c.if-checked-eq0.false)
    (record {
      size = omega (arith, l);
      text = part_text b _ t u m (omega arith) c.signs.ensures l _;
      behind = part_behind b _ t u m (omega arith) c.signs.ensures l _ (omega arith);
    })
