-- `scan::Scan::bytes` meets its contract: by so many bytes as a step takes, the state of the bytes so far.
-- Assumes nothing.
use mathlib.Core.Path.{◌≡◌, ap, ◌∙◌}
use Prim.Native.Nat.{ℕ, ◌+◌, ◌*◌, ◌-◌, ◌≤◌}
use native.Mathlib.Omega.{arith}
use mathlib.Core.List.{List}
use lib.ListN.{length, take, drop, length-take, length-drop}
use Rattle.rules.specs.Bytes.{all_bits}
use Rattle.scan.specs.declared.Scan.{Scan}
use Rattle.scan.specs.Scan.{scan_of, Ready}
use Rattle.scan.proofs.Laws.{ready_same, scanned, scanned_none, scanned_all, scanned-ready, scanned-on}
use Rattle.scan.proofs.Scan.bytes.Goals as goal

-- where the state is that after k bytes, j more can be read; and the state after those is that after k + j
module _ (self : Scan) (at k : ℕ) (bs : List ℕ) {st : Scan} (e : st ≡ scanned self at bs k) (j : ℕ) (h : k + j ≤ length bs) where
  on-ready : Ready self (8 * length bs) → Ready st (8 * j)
  on-ready r = ready_same (8 * j) e (scanned-ready self at k j bs h r)

  goes-on : {x : Scan} → x ≡ scan_of st (at + 8 * k) (all_bits (take j (drop k bs))) → x ≡ scanned self at bs (k + j)
  goes-on f = f ∙ ap (λ (y : Scan). scan_of y (at + 8 * k) (all_bits (take j (drop k bs)))) e ∙ scanned-on self at k j bs (omega (arith, h))

part-length : (k j : ℕ) (bs : List ℕ) → k + j ≤ length bs → length (take j (drop k bs)) ≡ j
part-length k j bs h = simp (length-take, length-drop) (omega arith)

pub loop-k-init : goal.loop-k-init
loop-k-init c = (omega arith, scanned_none c.args.self c.args.at c.args.part.now)

pub overflow_add-st : goal.overflow_add-st
overflow_add-st c = omega (arith, (on-ready c.args.self c.args.at c.loop-k.k c.args.part.now c.loop-k.invariant.1 8 (omega arith) c.requires.0).bound)

pub overflow_add-st-then-st : goal.overflow_add-st-then-st
overflow_add-st-then-st c = omega (arith, (on-ready c.args.self c.args.at c.loop-k.k c.args.part.now c.loop-k.invariant.1 8 (omega arith) c.requires.0).bound)

pub thirty_two-st-requires : goal.thirty_two-st-requires
thirty_two-st-requires c = (omega arith, on-ready c.args.self c.args.at c.loop-k.k c.args.part.now c.loop-k.invariant.1 32 (omega arith) c.requires.0, omega arith)

pub loop-k-preserved-then-k-part : goal.loop-k-preserved-then-k-part
loop-k-preserved-then-k-part c = (omega arith, goes-on c.args.self c.args.at c.loop-k.k c.args.part.now c.loop-k.invariant.1 32 (omega arith) (c.thirty_two-st.ensures _))

pub eight-st-requires : goal.eight-st-requires
eight-st-requires c = (omega arith, on-ready c.args.self c.args.at c.loop-k.k c.args.part.now c.loop-k.invariant.1 8 (omega arith) c.requires.0, omega arith)

pub loop-k-preserved-else-st-2 : goal.loop-k-preserved-else-st-2
loop-k-preserved-else-st-2 c = (omega arith, goes-on c.args.self c.args.at c.loop-k.k c.args.part.now c.loop-k.invariant.1 8 (omega arith) (c.eight-st.ensures _))

pub each-st-requires : goal.each-st-requires
each-st-requires c =
    let bs = c.args.part.now in
    let k = c.loop-k.k in
    let e : k + 8 - k ≡ 8 = omega arith in
    let l = part-length k 8 bs (omega arith) in
    (rw (e, l) (on-ready c.args.self c.args.at k bs c.loop-k.invariant.1 8 (omega arith) c.requires.0), rw (e, l) (omega arith))

pub loop-k-preserved : goal.loop-k-preserved
loop-k-preserved c =
    let k = c.loop-k.k in
    let e : k + 8 - k ≡ 8 = omega arith in
    (omega arith, goes-on c.args.self c.args.at k c.args.part.now c.loop-k.invariant.1 8 (omega arith) (rw e at c.each-st.ensures))

pub each-requires : goal.each-requires
each-requires c =
    let bs = c.args.part.now in
    let k = c.loop-k.k in
    let l = part-length k (length bs - k) bs (omega arith) in
    (rw l (on-ready c.args.self c.args.at k bs c.loop-k.invariant.1 (length bs - k) (omega arith) c.requires.0), rw l (omega arith))

pub returns : goal.returns
returns c =
    let bs = c.args.part.now in
    let k = c.loop-k.k in
    goes-on c.args.self c.args.at k bs c.loop-k.invariant.1 (length bs - k) (omega arith) c.each.ensures
    ∙ scanned_all c.args.self c.args.at (k + (length bs - k)) bs (omega arith)
