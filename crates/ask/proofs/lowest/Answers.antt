-- `ask::lowest` meets its contract: closing i's byte is found, and closing j is in it or in the bytes behind it.
-- Assumes nothing.
use mathlib.Core.Path.{◌∙◌}
use native.Mathlib.Omega.{arith}
use Rattle.ask.proofs.FromClosing.{number_low, byte_low, begins, before_fits, next_fits, same_after, same-among, same_low, same-order, same_seen, apart-ready, apart-near, apart-among, apart-seen}
use Rattle.ask.proofs.lowest.Goals as goal

pub overflow_mul-start : goal.overflow_mul-start
overflow_mul-start c = omega (arith, number_low c.requires c.find-first.ensures)

pub overflow_sub-start : goal.overflow_sub-start
overflow_sub-start c = omega (arith, number_low c.requires c.find-first.ensures, byte_low c.requires c.find-first.ensures)

pub overflow_sub-start-2 : goal.overflow_sub-start-2
overflow_sub-start-2 c = omega (arith, number_low c.requires c.find-first.ensures, byte_low c.requires c.find-first.ensures)

pub invariant_of-start : goal.invariant_of-start
invariant_of-start c = record { begins = begins c.requires c.find-first.ensures }

pub closings-passed-requires : goal.closings-passed-requires
closings-passed-requires c =
    (next_fits c.requires c.find-first.ensures c.behind-here.ensures, omega (arith, byte_low c.requires c.find-first.ensures))

pub closings-before-requires : goal.closings-before-requires
closings-before-requires c =
    (before_fits c.requires c.find-first.ensures, omega (arith, byte_low c.requires c.find-first.ensures))

pub overflow_sub-j : goal.overflow_sub-j
overflow_sub-j c =
    same_after c.requires c.find-first.ensures c.behind-here.ensures c.closings-passed.ensures c.if-j-passed.true c.closings-before.ensures

pub nth-last-requires : goal.nth-last-requires
nth-last-requires c =
    same-among c.requires c.find-first.ensures c.behind-here.ensures c.closings-passed.ensures c.if-j-passed.true c.closings-before.ensures

pub overflow_add-last : goal.overflow_add-last
overflow_add-last c =
    omega (arith, same_low c.requires c.find-first.ensures c.behind-here.ensures c.closings-passed.ensures c.if-j-passed.true c.closings-before.ensures c.nth-last.ensures)

pub within-requires : goal.within-requires
within-requires c = (
  omega (arith, same-order c.requires c.find-first.ensures c.behind-here.ensures c.closings-passed.ensures c.if-j-passed.true c.closings-before.ensures c.nth-last.ensures),
  omega (arith, same_low c.requires c.find-first.ensures c.behind-here.ensures c.closings-passed.ensures c.if-j-passed.true c.closings-before.ensures c.nth-last.ensures),
)

pub returns-then-j-passed : goal.returns-then-j-passed
returns-then-j-passed c =
    c.within.ensures ∙ same_seen c.requires c.find-first.ensures c.behind-here.ensures c.closings-passed.ensures c.if-j-passed.true c.closings-before.ensures c.nth-last.ensures

pub invariant_of-rest : goal.invariant_of-rest
invariant_of-rest c =
    record {
      ready = apart-ready c.requires c.find-first.ensures c.behind-here.ensures c.closings-passed.ensures c.if-j-passed.false;
      near = apart-near c.requires c.find-first.ensures c.behind-here.ensures c.closings-passed.ensures c.if-j-passed.false;
    }

pub through-requires : goal.through-requires
through-requires c =
    apart-among c.requires c.find-first.ensures c.behind-here.ensures c.closings-passed.ensures c.if-j-passed.false

pub returns : goal.returns
returns c =
    c.through.ensures ∙ apart-seen c.requires c.find-first.ensures c.behind-here.ensures c.closings-passed.ensures c.if-j-passed.false
