-- `show::listing` ends: each line that is shown is one fewer of those left. Assumes nothing.
use mathlib.Core.Path.{sym}
use Rattle.listing.proofs.Onward.{one_fewer}
use Rattle.list_cases.proofs.show.listing.Goals as goal

pub loop-text-smaller : goal.loop-text-smaller
loop-text-smaller g c = one_fewer c.loop-text.rest (sym c.loop-text-test.ensures) c.next-rest.ensures.writes
