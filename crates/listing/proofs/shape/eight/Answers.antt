-- `listing::shape::eight` meets its contract, by the test over every byte.
-- Assumes nothing.
use mathlib.Core.Path.{◌∙◌, ap}
use native.Mathlib.Omega.{arith}
use Rattle.std.specs.Int.{w64, to_le_bytes}
use Rattle.std.proofs.lemmas.Nat.{and_le_r}
use Rattle.listing.proofs.Eight.{worked-signs}
use Rattle.listing.proofs.shape.eight.Goals as goal

pub returns : goal.returns
returns c = c.to_le_bytes.ensures ∙ ap (to_le_bytes w64) (rw c.from.ensures (omega (arith, and_le_r))) ∙ worked-signs c.args.byte c.ranges.byte.fits
