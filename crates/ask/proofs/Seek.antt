-- Reading bytes until the one in which a closing stands: the excess tells how many closings have been read.
-- Assumes nothing.
use mathlib.Core.Path.{◌≡◌, refl, ap, ◌∙◌}
use Prim.Native.Nat.{ℕ, suc, pred, ◌+◌, ◌-◌, ◌*◌, ◌/◌, ◌≤◌, ◌<◌}
use native.Mathlib.Numerals.{add-one}
use native.Mathlib.Omega.{arith}
use mathlib.Core.List.{List, [], ◌∷◌, ◌++◌, append-nil}
use lib.ListN.{length, take, drop, get_or}
use lib.Seq.{take_all, take-suc, take-append-add, take-append-le, length-take-le}
use Rattle.rules.specs.Shape.{Paren, opening, closing}
use Rattle.rules.specs.Excess.{closings, closing_place}
use Rattle.rules.specs.Bytes.{low_bits, all_bits}
use Rattle.rules.proofs.Excess.{closings-append, counts-length}
use Rattle.rules.proofs.ClosingPlace.{closing-within}
use Rattle.rules.proofs.Bytes.{low_bits-length, all_bits-length, all_bits-append}
use Rattle.rules.proofs.Parts.{closing_first, closing_second, all_bits-cut}
use Rattle.scan.specs.declared.Scan.{Scan}
use Rattle.scan.specs.Scan.{step_of, scan_of, Ready}
use Rattle.scan.proofs.Laws.{scan-append, scanned, scanned_none, scanned-ready, scanned-more, ready_same}
use Rattle.ask.specs.Part.{Stops}
use Rattle.ask.specs.declared.part.Ahead.{Ahead}
use Rattle.ask.specs.declared.part.Stop.{Stop}

-- a parenthesis that opens adds one, and one that closes takes one off
pub scan-counts : (st : Scan) (p : ℕ) (s : List Paren) → length s ≤ st.excess → (scan_of st p s).excess + 2 * closings s ≡ st.excess + length s
unfolding scan_of step_of closings
scan-counts st p [] h = refl
scan-counts st p (opening ∷ s) h =
    let r : (scan_of (step_of st p opening) (suc p) s).excess + 2 * closings s ≡ suc st.excess + length s = scan-counts (step_of st p opening) (suc p) s (omega arith) in
    omega arith
scan-counts st p (closing ∷ s) h =
    let l : length s ≤ pred st.excess = omega arith in
    let r : (scan_of (step_of st p closing) (suc p) s).excess + 2 * closings s ≡ pred st.excess + length s = scan-counts (step_of st p closing) (suc p) s l in
    omega arith

-- the bits of one byte more
pub bits-more : (bs : List ℕ) (m : ℕ) → m < length bs → all_bits (take (m + 1) bs) ≡ all_bits (take m bs) ++ low_bits 8 (get_or bs m 0)
unfolding all_bits
bits-more bs m h = rw (add-one m, take-suc bs m 0 h, all_bits-append, append-nil (low_bits 8 (get_or bs m 0)))

pub bits-length : (bs : List ℕ) (m : ℕ) → m ≤ length bs → length (all_bits (take m bs)) ≡ 8 * m
bits-length bs m h = all_bits-length (take m bs) ∙ ap (8 *◌) (length-take-le m bs h)

-- closings among the first m bytes
abbrev pub passed : List ℕ → ℕ → ℕ
passed bs m = closings (all_bits (take m bs))

-- here is the state before byte m, and closing k is not before it
pub record Seeks (st : Scan) (at : ℕ) (bs : List ℕ) (k : ℕ) (here : Scan) (m : ℕ) : Type 0 where
  pub ahead : passed bs m ≤ k
  pub before : here ≡ scanned st at bs m
  pub level : here.excess + 2 * passed bs m ≡ st.excess + 8 * m

module _ (a : Ahead) {k : ℕ} (among : k < closings (all_bits a.bytes.now)) where
  abbrev st : Scan
  st = a.scan

  abbrev at : ℕ
  at = a.at

  abbrev bs : List ℕ
  bs = a.bytes.now

  pub few : k < 8 * length bs
  few = omega (arith, among, counts-length (all_bits bs), all_bits-length bs)

  seeks : {here : Scan} {m : ℕ} → m ≤ length bs → passed bs m ≤ k → here ≡ scanned st at bs m → Seeks st at bs k here m
  unfolding scanned
  seeks {here} {m} l p e =
      let n = bits-length bs m l in
      let r = a.ready.room in
      record { ahead = p; before = e; level = rw e (scan-counts st at (all_bits (take m bs)) (omega arith) ∙ ap (st.excess +◌) n) }

  pub seeks_first : Seeks st at bs k st 0
  unfolding all_bits closings
  seeks_first = seeks (omega arith) (omega arith) (scanned_none st at bs)

  module _ {here : Scan} {m : ℕ} (w : Seeks st at bs k here m) where
    -- closing k is among the bytes
    pub not_ended : length bs ≤ m → ⊥
    not_ended l =
        let e : passed bs m ≡ closings (all_bits bs) = ap (λ (x : List ℕ). closings (all_bits x)) (take_all m bs l) in
        omega (arith, among, w.ahead)

    -- the closings before byte m
    pub before-byte : {n : ℕ} → n ≡ (st.excess + 8 * m - here.excess) / 2 → n ≡ passed bs m
    before-byte e = omega (arith, w.level)

    module _ (l : m < length bs) where
      pub byte-ready : Ready here 8
      byte-ready = ready_same 8 w.before (scanned-ready st at m 1 bs (omega arith) a.ready)

      -- the state behind byte m
      module _ {next : Scan} (f : next ≡ scan_of here (at + 8 * m) (low_bits 8 (get_or bs m 0))) where
        behind : next ≡ scanned st at bs (m + 1)
        behind = f ∙ ap (λ (x : Scan). scan_of x (at + 8 * m) (low_bits 8 (get_or bs m 0))) w.before ∙ scanned-more st at m bs l

        pub level_next : next.excess + 2 * passed bs (m + 1) ≡ st.excess + 8 * (m + 1)
        unfolding scanned
        level_next =
            let n = bits-length bs (m + 1) (omega arith) in
            let r = a.ready.room in
            rw behind (scan-counts st at (all_bits (take (m + 1) bs)) (omega arith) ∙ ap (st.excess +◌) n)

        -- closing k is not in byte m
        pub seeks-on : 8 * (m + 1) + st.excess ≤ 2 * k + next.excess → Seeks st at bs k next (m + 1)
        seeks-on on = record { ahead = omega (arith, level_next); before = behind; level = level_next }

        -- it is in byte m
        module _ (off : 2 * k + next.excess < 8 * (m + 1) + st.excess) where
          in-byte : k - passed bs m < closings (low_bits 8 (get_or bs m 0))
          in-byte =
              let v = low_bits 8 (get_or bs m 0) in
              let c : passed bs (m + 1) ≡ passed bs m + closings v = rw (bits-more bs m l) (closings-append (all_bits (take m bs)) v) in
              omega (arith, level_next, w.ahead)

          module _ {n : ℕ} (counted : n ≡ (st.excess + 8 * m - here.excess) / 2) where
            pub counted-in-byte : k - n < closings (low_bits 8 (get_or bs m 0))
            counted-in-byte = rw (before-byte counted) in-byte

            pub stops : {x : ℕ} → x ≡ closing_place (low_bits 8 (get_or bs m 0)) (k - n) → Stops st at bs k (record { scan = here; byte = m; bit = x })
            unfolding scanned
            stops {x} e' =
                let u = all_bits (take m bs) in
                let b = get_or bs m 0 in
                let v = low_bits 8 b in
                let z = all_bits (drop (suc m) bs) in
                let e : x ≡ closing_place v (k - passed bs m) = rw (before-byte counted) at e' in
                let low : closing_place v (k - passed bs m) < 8 = rw (low_bits-length 8 b) at (closing-within v (k - passed bs m) in-byte) in
                let g : closing_place (all_bits bs) k ≡ length u + closing_place v (k - passed bs m) =
                rw (all_bits-cut bs m l, closing_second u (v ++ z) k w.ahead) (ap (length u +◌) (closing_first v z (k - passed bs m) in-byte)) in
                record { byte = l; bit = omega arith; stands = omega (arith, bits-length bs m (omega arith)); scan = w.before }

-- ---- just behind a closing

module _ (a : Ahead) {k : ℕ} {r : Stop} (w : Stops a.scan a.at a.bytes.now k r) where
  abbrev bytes : List ℕ
  bytes = a.bytes.now

  pub stop_ready : Ready r.scan 8
  unfolding scanned
  stop_ready = ready_same 8 w.scan (scanned-ready a.scan a.at r.byte 1 bytes (omega (arith, w.byte)) a.ready)

  pub stop_through : scan_of r.scan (a.at + 8 * r.byte) (take (r.bit + 1) (low_bits 8 (get_or bytes r.byte 0))) ≡ scan_of a.scan a.at (take (closing_place (all_bits bytes) k + 1) (all_bits bytes))
  stop_through =
      let u = all_bits (take r.byte bytes) in
      let v = low_bits 8 (get_or bytes r.byte 0) in
      let z = all_bits (drop (suc r.byte) bytes) in
      let n : length u ≡ 8 * r.byte = bits-length bytes r.byte (omega (arith, w.byte)) in
      let e : closing_place (all_bits bytes) k + 1 ≡ length u + (r.bit + 1) = omega (arith, w.stands) in
      let f : take (closing_place (all_bits bytes) k + 1) (all_bits bytes) ≡ u ++ take (r.bit + 1) v =
      ap (λ (n : ℕ). take n (all_bits bytes)) e
      ∙ ap (take (length u + (r.bit + 1))) (all_bits-cut bytes r.byte w.byte)
      ∙ take-append-add u (v ++ z) (r.bit + 1)
      ∙ ap (λ (l : List Paren). u ++ l) (take-append-le (r.bit + 1) v z (rw (low_bits-length 8 (get_or bytes r.byte 0)) (omega (arith, w.bit)))) in
      rw (f, scan-append a.scan a.at u (take (r.bit + 1) v), n, ← w.scan)
