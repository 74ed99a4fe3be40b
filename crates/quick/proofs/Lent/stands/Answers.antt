-- `quick::Lent::stands` meets its contract: by the excess before the block and the block's bits.
-- Assumes nothing.
use Prim.Native.Nat.{◌+◌, ◌*◌}
use native.Mathlib.Omega.{arith}
use Rattle.std.specs.Prelude.{Ok}
use Rattle.quick.specs.Stretch.{Stands}
use Rattle.quick.proofs.Foreign.{was_some, was_none}
use Rattle.quick.proofs.Standing.{not_there, stands_there}
use Rattle.quick.proofs.Lent.stands.Goals as goal

pub returns-in_err-twice : goal.returns-in_err-twice
returns-in_err-twice c =
    let (none, foreign) = was_none c.checked_sub.result c.in_err-twice.field-0.0 c.from_residual.result c.in_err-twice.ensures.value c.from_residual.ensures.1 in
    rw foreign (not_there c.args.self.now c.args.k c.args.i c.before-e.result c.before-e.ensures (omega (arith, rw none at c.checked_sub.ensures)))

pub returns-in_err-x : goal.returns-in_err-x
returns-in_err-x c =
    let some = was_some c.checked_sub.result c.in_ok-twice.twice c.in_ok-twice.ensures.value in
    let (none, foreign) = was_none c.select.result c.in_err-x.field-0.0 c.from_residual-in_err-x.result c.in_err-x.ensures.value c.from_residual-in_err-x.ensures.1 in
    rw foreign
    (rw none at (stands_there c.args.self.now c.args.k c.args.i c.before-e.result c.before-e.ensures c.requires.0 c.in_ok-twice.twice (rw some at c.checked_sub.ensures).1 c.end_of-end.result c.end_of-end.ensures c.select.result c.select.ensures))

there : (c : goal.In_ok-x) → Stands c.args.self.now c.args.k c.args.i (Ok (256 * c.args.k + c.in_ok-x.x))
there c =
    let some = was_some c.checked_sub.result c.in_ok-twice.twice c.in_ok-twice.ensures.value in
    rw (was_some c.select.result c.in_ok-x.x c.in_ok-x.ensures.value)
    at (stands_there c.args.self.now c.args.k c.args.i c.before-e.result c.before-e.ensures c.requires.0 c.in_ok-twice.twice (rw some at c.checked_sub.ensures).1 c.end_of-end.result c.end_of-end.ensures c.select.result c.select.ensures)

pub overflow_add-result : goal.overflow_add-result
overflow_add-result c = omega (arith, (there c).there.upto)

pub returns : goal.returns
returns c = there c
