-- `ask::byte::Start::behind` meets its contract: the closings read before bit x leave no mark.
-- Assumes nothing.
use mathlib.Core.Path.{◌∙◌}
use native.Mathlib.Nat.{le_of_lt}
use native.Mathlib.Omega.{arith}
use Rattle.ask.proofs.Fillers.{begins_low, closed_before}
use Rattle.ask.proofs.byte.Start.behind.Goals as goal

pub closed-requires : goal.closed-requires
closed-requires c = le_of_lt (begins_low c.args.self.begins)

pub byte-requires : goal.byte-requires
byte-requires c =
    let low = begins_low c.args.self.begins in
    (record { room = omega arith; high = omega arith; bound = omega arith }, omega arith)

pub returns : goal.returns
returns c =
    let s = c.args.self in
    c.byte.ensures ∙ closed_before s.at s.byte s.bit s.excess _ s.begins c.closed.ensures
