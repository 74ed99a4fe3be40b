-- `append::count` meets its contract: each record that is passed is one more, and whatever stops the walk is 13.
-- Assumes nothing.
use mathlib.Core.Path.{◌≡◌, refl, sym, ◌∙◌}
use Prim.Native.Nat.{ℕ, ◌+◌, ◌<◌}
use native.Mathlib.Omega.{arith}
use mathlib.Core.List.{List}
use lib.ListN.{length}
use Rattle.std.proofs.Common.{rules}
use Rattle.std.specs.Prelude.{Result, Ok, Err}
use Rattle.std.specs.Result.{MatchResult}
use Rattle.rules.specs.Refusal.{refusal}
use Rattle.rules.specs.Drawer.{found, seek, records_in}
use Rattle.rules.proofs.Drawer.{records, records_end, records_fault, records-more}
use Rattle.answers.specs.declared.Refusal.{Refusal}
use Rattle.answers.specs.declared.Refusal.TheVariants.{UsedWrong}
use Rattle.answers.proofs.Said.{said_on}
use Rattle.answers.specs.Said.{number}
use Rattle.drawer.specs.declared.Place.{Place}
use Rattle.drawer.specs.Said.{said_found}
use Rattle.drawer.proofs.Walk.{stands, ends-within, faulty}
use Rattle.append.proofs.count.Goals as goal

stopped : (d : List ℕ) (at k : ℕ) (r m : Result Place Refusal) (y : Refusal) → at < length d → said_found r ≡ seek d 0 at → m ≡ Err y
    → MatchResult r (λ v. m ≡ Ok v) (λ x. m ≡ Err UsedWrong) → refusal (number y) ≡ records d at k
stopped d at k (Ok v) m y h e was is = cc
stopped d at k (Err x) m y h e was is =
    let wrong : y ≡ UsedWrong = cc in
    rw wrong (sym (records_fault d at k (number x) h (faulty d at (number x) h (sym e))))

counts-on : (d : List ℕ) (at p l k : ℕ) → seek d 0 at ≡ found p l → records d (p + l) (k + 1) ≡ records d at k
counts-on d at p l k e =
    let s = stands d at p l e in
    rw (s.here, s.size) (sym (records-more d at k s.n s.framed))

pub loop-at-init : goal.loop-at-init
unfolding records_in
loop-at-init c = (omega arith, omega arith, refl)

pub returns-in_err-passed : goal.returns-in_err-passed
returns-in_err-passed c =
    let is : MatchResult c.record_at.result (λ v. c.map_err.result ≡ Ok v) (λ x. c.map_err.result ≡ Err UsedWrong) = search rules in
    said_on c.from_residual.result c.in_err-passed.field-0.0 c.from_residual.ensures.1
    ∙ stopped c.args.bytes.now c.loop-at.at c.loop-at.k c.record_at.result c.map_err.result _ c.loop-at-test.true c.record_at.ensures c.in_err-passed.was is
    ∙ c.loop-at.invariant.2

pub overflow_add-at : goal.overflow_add-at
overflow_add-at c =
    let here : found c.in_ok-passed.passed.at c.in_ok-passed.passed.size ≡ seek c.args.bytes.now 0 c.loop-at.at = search rules in
    omega (arith, ends-within _ _ _ _ (sym here))

pub loop-at-smaller : goal.loop-at-smaller
loop-at-smaller c =
    let here : found c.in_ok-passed.passed.at c.in_ok-passed.passed.size ≡ seek c.args.bytes.now 0 c.loop-at.at = search rules in
    omega (arith, ends-within _ _ _ _ (sym here))

pub loop-at-preserved : goal.loop-at-preserved
loop-at-preserved c =
    let here : found c.in_ok-passed.passed.at c.in_ok-passed.passed.size ≡ seek c.args.bytes.now 0 c.loop-at.at = search rules in
    let ends = ends-within _ _ _ _ (sym here) in
    (ends.2, omega (arith, ends), counts-on _ _ _ _ c.loop-at.k (sym here) ∙ c.loop-at.invariant.2)

pub returns : goal.returns
returns c = sym (records_end (c.args.bytes.now) _ _ c.loop-at-test.false) ∙ c.loop-at.invariant.2
