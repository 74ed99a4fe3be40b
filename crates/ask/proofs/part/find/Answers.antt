-- `ask::part::find` meets its contract: what is skipped is counted, and the closing is sought in what is left.
-- Assumes nothing.
use native.Mathlib.Omega.{arith}
use Rattle.ask.proofs.Found.{skipped_few, left_ready, left_near, left_among, left_found}
use Rattle.ask.proofs.part.find.Goals as goal

pub overflow_mul-scan-2 : goal.overflow_mul-scan-2
overflow_mul-scan-2 c =
    omega (arith, c.requires.0, c.skip-skipped.ensures.within, skipped_few c.requires.0 c.requires.1 c.skip-skipped.ensures)

pub overflow_sub-scan : goal.overflow_sub-scan
overflow_sub-scan c = omega (arith, skipped_few c.requires.0 c.requires.1 c.skip-skipped.ensures)

pub invariant_of-rest : goal.invariant_of-rest
invariant_of-rest c =
    record {
      ready = omega (arith, left_ready c.requires.0 c.requires.1 c.skip-skipped.ensures);
      near = left_near c.requires.0 c.requires.1 c.skip-skipped.ensures;
    }

pub seek-stop-requires : goal.seek-stop-requires
seek-stop-requires c = left_among c.requires.0 c.requires.1 c.skip-skipped.ensures

pub returns : goal.returns
returns c = left_found c.requires.0 c.requires.1 c.skip-skipped.ensures c.seek-stop.ensures
