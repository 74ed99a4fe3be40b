-- `scan::Scan::byte` meets its contract: the row's three numbers give what reading the eight parentheses one by one gives.
-- Assumes nothing.
use borrow.Author.Rules.{rules}
use mathlib.Core.Path.{◌≡◌, subst⁻¹, ◌∙◌}
use Prim.Native.Nat.{ℕ, ◌+◌, ◌*◌, ◌≤◌, ◌<◌}
use native.Mathlib.Omega.{arith}
use Rattle.scan.specs.Rows.{cell}
use Rattle.scan.proofs.Cells.{cell_at}
use Rattle.scan.proofs.Row.{cell_first, row-lower, row_above}
use Rattle.scan.proofs.Scan.byte.Goals as goal

small : (k : ℕ) {x : ℕ} → k < 768 → x ≡ cell k → x ≤ 16
small k h e = subst⁻¹ (λ (x : ℕ). x ≤ 16) e (cell_at k h).small

pub overflow_add-excess : goal.overflow_add-excess
overflow_add-excess c = omega (arith, small (3 * c.args.b) (search rules) c.shifted.ensures)

pub overflow_add-smallest : goal.overflow_add-smallest
overflow_add-smallest c =
    omega (arith, small (3 * c.args.b + 1) (search rules) c.shifted-2.ensures)

pub overflow_add-place : goal.overflow_add-place
overflow_add-place c =
    omega (arith, small (3 * c.args.b + 2) (search rules) c.shifted-then-smallest-self.ensures)

pub overflow_sub-place : goal.overflow_sub-place
overflow_sub-place c =
    omega (arith, c.shifted-then-smallest-self.ensures ∙ cell_first c.args.b)

pub returns-then-smallest-self : goal.returns-then-smallest-self
returns-then-smallest-self c =
    row-lower c.args.self c.args.at c.args.b c.requires.0 (search rules) c.shifted.ensures c.shifted-2.ensures c.shifted-then-smallest-self.ensures c.if-smallest-self.true

pub returns : goal.returns
returns c =
    row_above c.args.self c.args.at c.args.b c.requires.0 (search rules) c.shifted.ensures c.shifted-2.ensures c.if-smallest-self.false
