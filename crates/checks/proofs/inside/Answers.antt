-- `checks::inside` meets its contract: at each return the tests that led there say which row of the order holds.
-- Assumes nothing.
use mathlib.Core.Path.{sym, ◌∙◌}
use Prim.Native.Nat.{ℕ, ◌≤◌}
use native.Mathlib.Omega.{arith}
use mathlib.Core.List.{List}
use lib.ListN.{length}
use borrow.Author.Tests.{lt-ltb}
use Rattle.rules.specs.Bytes.{most, record_length}
use Rattle.checks.specs.Inside.{Whole, inside_says}
use Rattle.checks.proofs.Says.{inside_none, inside_some}
use Rattle.checks.proofs.inside.Goals as goal

whole : {r : List ℕ} {n : ℕ} → n ≤ most → record_length n ≤ length r → length r ≤ record_length n → Whole r n
whole f h l = record { few = f; exact = omega arith }

pub returns-then-n-bytes : goal.returns-then-n-bytes
unfolding inside_says
returns-then-n-bytes c = simp (lt-ltb _ _ c.if-n-bytes.true)

pub returns-then-n-eq0 : goal.returns-then-n-eq0
returns-then-n-eq0 c =
    rw c.if-n-eq0.true (inside_none c.args.bytes.now (omega arith))

pub returns-then-opens_from : goal.returns-then-opens_from
returns-then-opens_from c =
    sym (inside_some c.args.bytes.now c.args.n (whole c.requires.0 c.requires.1 c.if-n-bytes.false) (omega arith) c.opens_from.result c.opens_from.ensures ∙ rw c.if-opens_from.true)

pub returns-then-in_balance : goal.returns-then-in_balance
returns-then-in_balance c =
    sym (inside_some c.args.bytes.now c.args.n (whole c.requires.0 c.requires.1 c.if-n-bytes.false) (omega arith) c.opens_from.result c.opens_from.ensures ∙ rw (c.if-opens_from.false, ← c.in_balance.ensures, c.if-in_balance.true))

pub returns : goal.returns
returns c =
    sym (inside_some c.args.bytes.now c.args.n (whole c.requires.0 c.requires.1 c.if-n-bytes.false) (omega arith) c.opens_from.result c.opens_from.ensures ∙ rw (c.if-opens_from.false, ← c.in_balance.ensures, c.if-in_balance.false))
