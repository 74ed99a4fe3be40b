-- `ask::part::Ahead::seek` meets its contract. The loop's invariant: here is the state before byte m, and the closing is not before it.
-- Assumes nothing.
use native.Mathlib.Omega.{arith}
use Rattle.ask.proofs.Seek.{few, seeks_first, not_ended, byte-ready, level_next, seeks-on, counted-in-byte, stops}
use Rattle.ask.proofs.part.Ahead.seek.Goals as goal

pub loop-m-init : goal.loop-m-init
loop-m-init c = seeks_first c.args.self c.requires

pub byte-next-requires : goal.byte-next-requires
byte-next-requires c = (byte-ready c.args.self c.requires c.loop-m.invariant c.loop-m-test.true, omega arith)

pub overflow_mul-k : goal.overflow_mul-k
overflow_mul-k c = omega (arith, few c.args.self c.requires)

pub overflow_add-k : goal.overflow_add-k
overflow_add-k c = omega (arith, few c.args.self c.requires, level_next c.args.self c.requires c.loop-m.invariant c.loop-m-test.true c.byte-next.ensures)

pub nth-requires : goal.nth-requires
nth-requires c = counted-in-byte c.args.self c.requires c.loop-m.invariant c.loop-m-test.true c.byte-next.ensures c.if-k-next.true c.closings-before.ensures

pub returns-then-k-next : goal.returns-then-k-next
returns-then-k-next c = stops c.args.self c.requires c.loop-m.invariant c.loop-m-test.true c.byte-next.ensures c.if-k-next.true c.closings-before.ensures c.nth.ensures

pub loop-m-preserved : goal.loop-m-preserved
loop-m-preserved c = seeks-on c.args.self c.requires c.loop-m.invariant c.loop-m-test.true c.byte-next.ensures c.if-k-next.false

pub unreachable-requires : goal.unreachable-requires
unreachable-requires c = not_ended c.args.self c.requires c.loop-m.invariant (omega arith)
