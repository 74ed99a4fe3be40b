-- A record that has passed its check: its closings are its entries, and the scan between two of them ends with the answer.
-- Assumes nothing.
use mathlib.Core.Path.{◌≡◌, ap, sym, ◌∙◌}
use Prim.Native.Nat.{ℕ, suc, ◌+◌, ◌-◌, ◌*◌, ◌≤◌, ◌<◌}
use native.Mathlib.Omega.{arith}
use mathlib.Core.List.{List}
use lib.ListN.{length, take, drop, get_or, length-drop, take-append-drop}
use lib.Seq.{take_all}
use Rattle.rules.specs.Shape.{Paren}
use Rattle.rules.specs.Column.{IsLeast, least}
use Rattle.rules.specs.Excess.{closings, closing_place, excesses, Balanced, entry_between}
use Rattle.rules.specs.Bytes.{bytes_for, all_bits, parens}
use Rattle.rules.proofs.Excess.{closings-append, counts-length, excesses_at}
use Rattle.rules.proofs.Least.{least_is}
use Rattle.rules.proofs.ClosingPlace.{closing-within, closing-order}
use Rattle.rules.proofs.Bytes.{all_bits-length}
use Rattle.rules.proofs.Checked.{Checked, says_checked, parens-length}
use Rattle.rules.proofs.Counted.{excess-counts, least-closes, between-raised}
use Rattle.checks.specs.declared.record.Record.{Record}
use Rattle.scan.specs.declared.Scan.{Scan}
use Rattle.ask.specs.Part.{ground_level}
use Rattle.ask.specs.Between.{seen_from, seen_between, Asked}

-- where a scan has ended, the closing that it names is the answer's
pub record Names (end : Scan) (entry : ℕ) : Type 0 where
  pub near : end.place + 1 ≤ ground_level
  pub counted : end.smallest + 2 * suc entry ≡ ground_level + (end.place + 1)

module _ (a : Record) {i j : ℕ} (h : (i ≤ j) × (j < a.entries)) where
  abbrev r : List ℕ
  r = a.bytes.now

  abbrev n : ℕ
  n = a.entries

  checked : Checked r n
  checked = says_checked r n a.accepted

  abbrev s : List Paren
  s = all_bits (drop 4 r)

  pub long : 4 ≤ length r
  long = omega (arith, checked.whole)

  abbrev body : List ℕ
  body = take (length r - 4) (drop 4 r)

  all : body ≡ drop 4 r
  all = take_all (length r - 4) (drop 4 r) (omega (arith, length-drop 4 r))

  bits : length s ≡ 8 * bytes_for n
  bits = omega (arith, all_bits-length (drop 4 r), length-drop 4 r, checked.whole)

  even : Balanced (take (2 * n) s)
  unfolding parens
  even = checked.balance

  entry_closings : closings (take (2 * n) s) ≡ n
  unfolding parens
  entry_closings =
      omega (arith, even.last, counts-length (take (2 * n) s), parens-length r n checked.framed.long)

  all_closings : closings (take (2 * n) s) ≤ closings s
  all_closings =
      omega (arith, sym (closings-append (take (2 * n) s) (drop (2 * n) s)) ∙ ap closings (take-append-drop (2 * n) s))

  among : j < closings s
  among = omega (arith, entry_closings, all_closings)

  pub asked : Asked body i j
  asked =
      rw all (record { few = omega (arith, checked.framed.few, all_bits-length (drop 4 r), bits); order = h.0; among = among })

  pub names : {end : Scan} → end ≡ seen_between (all_bits body) i j → Names end (entry_between (parens n r) i j)
  unfolding seen_between seen_from least parens
  names {end} f =
      let e : end ≡ seen_between s i j = rw all at f in
      let p = closing_place s i in
      let z = closing_place s j in
      let c = excesses ground_level s in
      let q = least c p z in
      let short : length s ≤ ground_level = omega (arith, bits, checked.framed.few) in
      let w = closing-within s j among in
      let l : IsLeast c p z q = least_is c p z (closing-order s i j h.0 among) in
      let u : q < length s = omega (arith, l.upto) in
      let x = between-raised ground_level (2 * n) s i j even h.0 (omega (arith, entry_closings)) in
      let y = least-closes ground_level s i z q short (omega (arith, among)) w l in
      let k = excess-counts ground_level s q short u in
      let v = excesses_at ground_level s q u in
      let b : end.place ≡ q = ap (λ (t : Scan). t.place) e in
      let d : end.smallest ≡ get_or c q 0 = ap (λ (t : Scan). t.smallest) e in
      record { near = omega arith; counted = omega arith }
