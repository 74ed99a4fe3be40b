-- From the checks and from what build leaves in the lent tail to the contract of `append`.
-- Assumes nothing.
use mathlib.Core.Path.{◌≡◌, sym, ap, ◌∙◌}
use Prim.Native.Nat.{ℕ, ◌+◌, ◌-◌, ◌≤◌}
use native.Mathlib.Omega.{arith}
use mathlib.Core.List.{List, ◌++◌, append-nil}
use lib.ListN.{length, take, drop, length-drop, take-append-drop, drop_of_length-le}
use Rattle.rules.specs.Refusal.{answer, refusal, unless_refused}
use Rattle.rules.specs.Order.{output_after, work_after}
use Rattle.rules.specs.Drawer.{append_says, buffer_after, work_after_append}
use Rattle.rules.proofs.Drawer.{rest, Ready, append_builds, build_answers}
use Rattle.answers.specs.declared.Refusal.{Refusal}
use Rattle.answers.specs.Said.{Answer}
use Rattle.std.specs.Prelude.{Ok, Err}
use Rattle.answers.specs.Said.{number, said}
use Rattle.build.specs.Builds.{Builds}
use Rattle.append.specs.Appends.{Appends}

-- the tail comes back with these bytes
abbrev pub back : List ℕ → ℕ → List ℕ → List ℕ
back b u o = take u b ++ (o ++ drop (length b - u) (drop u b))

tail_back : (b : List ℕ) (u : ℕ) (o : List ℕ) → back b u o ≡ take u b ++ o
tail_back b u o =
    rw (drop_of_length-le (drop u b) {i = length b - u} (omega (arith, length-drop u b)), append-nil)

-- behind the checks on the buffer build's answer decides; what build has been lent is all that stands behind the used bytes
module _ {b : List ℕ} {u k : ℕ} (ready : Ready b u k) {c w w' o' : List ℕ} where
  lent : {r : Answer} → Builds c w (take (length b - u) (drop u b)) r w' o' → Builds c w (drop u b) r w' o'
  lent built = rw (rest b u) at built

  decides : {r : Answer} → Builds c w (drop u b) r w' o' → append_says b u c (length w) ≡ unless_refused (said r) (λ l. answer (u + l))
  decides built =
      append_builds b u c (length w) ready
      ∙ ap (λ a. unless_refused a (λ l. answer (u + l))) (sym (rw (length-drop u b) at built.says))

  pub fits : {l : ℕ} → Builds c w (take (length b - u) (drop u b)) (Ok l) w' o' → u + l ≤ length b
  fits built =
      omega (arith, ready.used, length-drop u b, (build_answers c (length w) (length (drop u b)) (sym (lent built).says)).room)

  pub appended : {l : ℕ} → Builds c w (take (length b - u) (drop u b)) (Ok l) w' o' → Appends b u c w (Ok (u + l)) (back b u o') w'
  unfolding buffer_after work_after_append
  appended built =
      let whole = lent built in
      let says = decides whole in
      record {
        says = sym says;
        buffer = rw says (tail_back b u o' ∙ ap (λ o. take u b ++ o) whole.output);
        work = rw says whole.work;
      }

  pub passed_on : {x : Refusal} → Builds c w (take (length b - u) (drop u b)) (Err x) w' o' → Appends b u c w (Err x) (back b u o') w'
  unfolding output_after work_after buffer_after work_after_append
  passed_on built =
      let whole = lent built in
      let says = decides whole in
      record {
        says = sym says;
        buffer = rw says (tail_back b u o' ∙ ap (λ o. take u b ++ o) (rw (← whole.says) at whole.output) ∙ take-append-drop u b);
        work = rw says (rw (← whole.says) at whole.work);
      }

-- a refusal changes nothing
pub refused : (b : List ℕ) (u : ℕ) (c w : List ℕ) (x : Refusal) → append_says b u c (length w) ≡ refusal (number x) → Appends b u c w (Err x) b w
unfolding buffer_after work_after_append
refused b u c w x e = record { says = sym e; buffer = rw e; work = rw e }
