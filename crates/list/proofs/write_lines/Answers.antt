-- `list::write_lines` ends and meets its contract. Assumes nothing.
use mathlib.Core.Path.{sym, ap}
use mathlib.Core.List.{[], flatten}
use Rattle.std.proofs.Common.{rules}
use Rattle.rules.specs.Listing.{listing}
use Rattle.listing.proofs.Onward.{one_fewer}
use Rattle.list.proofs.Written.{appends_none, one_more, no_more}
use Rattle.list.proofs.write_lines.Goals as goal

pub loop-text-init : goal.loop-text-init
unfolding listing
loop-text-init g c = ([], appends_none (g.W.Write.contents c.args.out.now), ap flatten c.start.ensures.lines)

pub loop-text-smaller : goal.loop-text-smaller
loop-text-smaller g c = one_fewer c.loop-text.rest (sym c.loop-text-test.ensures) c.next-rest.ensures.writes

pub loop-text-preserved : goal.loop-text-preserved
loop-text-preserved g c =
    one_more (g.W.Write.contents c.args.out.now) (g.W.Write.contents c.loop-text.out) (g.W.Write.contents c.write_all.new.self)
    c.next-rest.ensures.writes c.bytes.ensures.is c.loop-text.invariant (search rules)

pub returns : goal.returns
returns g c =
    no_more (g.W.Write.contents c.args.out.now) (g.W.Write.contents c.loop-text.out) c.args.drawer.now c.loop-text.rest c.loop-text-test.ensures c.loop-text.invariant
