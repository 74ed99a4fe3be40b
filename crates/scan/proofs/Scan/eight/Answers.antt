-- `scan::Scan::eight` meets its contract: where nothing can go below the smallest, counted.
-- Assumes nothing.
use native.Mathlib.Omega.{arith}
use Rattle.scan.proofs.Laws.{few_close, scan-counted}
use Rattle.scan.proofs.Scan.eight.Goals as goal

pub overflow_mul-result : goal.overflow_mul-result
overflow_mul-result c =
    omega (arith, c.closings-closings.ensures, few_close c.args.k 8 c.args.part.now c.requires.2)

pub overflow_sub-result : goal.overflow_sub-result
overflow_sub-result c =
    omega (arith, c.closings-closings.ensures, few_close c.args.k 8 c.args.part.now c.requires.2)

pub returns : goal.returns
returns c p =
    scan-counted c.args.k 8 c.args.part.now c.requires.2 c.args.self p c.closings-closings.result c.closings-closings.ensures c.requires.0
