-- `ask::byte::Start::within` meets its contract: the openings read behind the first k parentheses are taken back.
-- Assumes nothing.
use mathlib.Core.Path.{◌∙◌}
use Prim.Native.Nat.{◌+◌, ◌-◌}
use lib.ListN.{take, drop}
use Rattle.rules.specs.Bytes.{low_bits}
use Rattle.scan.specs.Scan.{scan_of}
use Rattle.ask.specs.Byte.{begun}
use Rattle.ask.proofs.Fillers.{Undone, opened-within}
use Rattle.ask.proofs.byte.Start.within.Goals as goal
use Rattle.ask.proofs.byte.Start.within.Goals.{After-behind}

undone : (c : After-behind) → let s = c.args.self in Undone (8 - c.args.k) c.behind.result (scan_of (begun s.excess (s.at + s.bit)) (s.at + s.bit + 1) (drop (s.bit + 1) (take c.args.k (low_bits 8 s.byte))))
undone c =
    let s = c.args.self in
    opened-within s.byte c.args.k c.opened.result c.requires.1 c.opened.ensures s.at s.bit s.excess c.behind.result c.requires.0 c.behind.ensures

pub without-requires : goal.without-requires
without-requires c = (undone (goal.at.without-requires c).After-behind).fits

pub returns : goal.returns
returns c = c.without.ensures ∙ (undone (goal.at.returns c).After-behind).same
