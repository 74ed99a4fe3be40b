-- `ask::byte::upto` meets its contract: the openings read behind the first k parentheses are taken back.
-- Assumes nothing.
use mathlib.Core.Path.{◌∙◌}
use Prim.Native.Nat.{◌-◌}
use lib.ListN.{take}
use Rattle.rules.specs.Bytes.{low_bits}
use Rattle.scan.specs.Scan.{scan_of}
use Rattle.ask.proofs.Fillers.{Undone, opened_behind}
use Rattle.ask.proofs.byte.upto.Goals as goal
use Rattle.ask.proofs.byte.upto.Goals.{After-byte}

undone : (c : After-byte) → let a = c.args in Undone (8 - a.k) c.byte.result (scan_of a.st a.at (take a.k (low_bits 8 a.b)))
undone c =
    let a = c.args in
    opened_behind a.b a.k c.opened.result c.requires.3 c.opened.ensures a.st a.at c.byte.result c.requires.2 c.byte.ensures

pub without-requires : goal.without-requires
without-requires c = (undone (goal.at.without-requires c).After-byte).fits

pub returns : goal.returns
returns c = c.without.ensures ∙ (undone (goal.at.returns c).After-byte).same
