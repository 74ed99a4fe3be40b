-- `Text::word` meets its contract: the text goes behind what is used. Assumes nothing.
use mathlib.Core.Path.{refl}
use native.Mathlib.Omega.{arith}
use lib.ListN.{length}
use Rattle.listing.proofs.Writing.{part_text, part_behind}
use Rattle.listing.proofs.line.Text.word.Goals as goal

pub returns-clause-writes : goal.returns-clause-writes
returns-clause-writes c =
    let b = c.args.self.now.line.now in
    let u = c.args.self.now.used in
    let m = length c.args.text.now in
    record {
      size = omega arith;
      text = part_text b _ c.args.text.now u m (omega arith) c.copy_from_slice.ensures.after refl _;
      behind = part_behind b _ c.args.text.now u m (omega arith) c.copy_from_slice.ensures.after refl _ (omega arith);
    }
