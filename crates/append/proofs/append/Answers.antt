-- `append::append` meets its contract: the checks on the buffer in their order, and behind them what build answers.
-- Assumes nothing.
use mathlib.Core.Path.{◌≡◌, sym}
use Prim.Native.Nat.{ℕ, ◌≤◌, ◌<◌}
use native.Mathlib.Omega.{arith}
use mathlib.Core.List.{List}
use lib.ListN.{length, take}
use borrow.Author.Tests.{lt-ltb, le-ltb}
use Rattle.rules.specs.Refusal.{answer}
use Rattle.rules.specs.Drawer.{most_bytes, most_records, records_in, append_says}
use Rattle.rules.proofs.Drawer.{Ready}
use Rattle.answers.proofs.Said.{handed_on}
use Rattle.append.proofs.Appending.{refused, fits, appended, passed_on}
use Rattle.append.proofs.append.Goals as goal

ready : {b : List ℕ} {u k : ℕ} → length b ≤ most_bytes → u ≤ length b → answer k ≡ records_in (take u b) → k < most_records → Ready b u k
ready short used whole room = record { short = short; used = used; whole = sym whole; room = room }

pub returns-then-buffer-gt65536 : goal.returns-then-buffer-gt65536
unfolding append_says
returns-then-buffer-gt65536 c = refused _ _ _ _ _ (simp (lt-ltb _ _ c.if-buffer-gt65536.true))

pub returns-then-buffer-used : goal.returns-then-buffer-used
unfolding append_says
returns-then-buffer-used c = refused _ _ _ _ _ (simp (le-ltb _ _ c.if-buffer-gt65536.false, lt-ltb _ _ c.if-buffer-used.true))

pub returns-in_err-k : goal.returns-in_err-k
unfolding append_says
returns-in_err-k c =
    rw (handed_on c.from_residual.result c.in_err-k.field-0.0 c.from_residual.ensures.1)
    (refused _ _ _ _ _ (simp (le-ltb _ _ c.if-buffer-gt65536.false, le-ltb _ _ c.if-buffer-used.false, ← c.in_err-k.ensures)))

pub returns-then-k-ge64 : goal.returns-then-k-ge64
unfolding append_says
returns-then-k-ge64 c =
    let full : 64 ≤ c.in_ok-k.k = omega arith in
    refused _ _ _ _ _ (simp (le-ltb _ _ c.if-buffer-gt65536.false, le-ltb _ _ c.if-buffer-used.false, ← c.in_ok-k.ensures, le-ltb _ _ full))

pub returns-in_err-length : goal.returns-in_err-length
returns-in_err-length c =
    rw (handed_on c.from_residual-in_err-length.result c.in_err-length.field-0.0 c.from_residual-in_err-length.ensures.1)
    (passed_on (ready c.if-buffer-gt65536.false c.if-buffer-used.false c.in_ok-k.ensures c.if-k-ge64.false) (rw c.in_err-length.was at c.build.ensures))

pub overflow_add-result : goal.overflow_add-result
overflow_add-result c =
    omega (arith, fits (ready c.if-buffer-gt65536.false c.if-buffer-used.false c.in_ok-k.ensures c.if-k-ge64.false) (rw c.in_ok-length.was at c.build.ensures))

pub returns : goal.returns
returns c =
    appended (ready c.if-buffer-gt65536.false c.if-buffer-used.false c.in_ok-k.ensures c.if-k-ge64.false) (rw c.in_ok-length.was at c.build.ensures)
