-- From a closing on and up to a closing: what the code's steps come to, for any bytes, and what is right where the excess is the true one.
-- Assumes nothing.
use mathlib.Core.Path.{◌≡◌, ap, subst⁻¹, ◌∙◌}
use Prim.Native.Nat.{ℕ, ◌+◌, ◌-◌, ◌*◌, ◌/◌, ◌%◌, ◌≤◌, ◌<◌}
use native.Mathlib.Nat.{le_trans}
use native.Mathlib.Omega.{arith}
use mathlib.Core.List.{List}
use lib.ListN.{length, take, drop, get_or, length-take, length-drop}
use lib.Seq.{length-take-le, get_or-take, get_or-drop}
use Rattle.rules.specs.Shape.{Paren, opening, closing}
use Rattle.rules.specs.Bytes.{low_bits, all_bits}
use Rattle.rules.proofs.Bytes.{low_bits-length, all_bits-length}
use Rattle.scan.specs.declared.Scan.{Scan}
use Rattle.scan.specs.Scan.{Ready, scan_of}
use Rattle.scan.proofs.Laws.{ready_after, ready-fewer, scan_below}
use Rattle.ask.specs.Byte.{begun, Begins}
use Rattle.quick.specs.declared.part.Body.{Body}
use Rattle.quick.specs.declared.part.Closing.{Closing}
use Rattle.quick.specs.Lowest.{Lowest}
use Rattle.quick.specs.Part.{height, level, end_of, Runs, ClosingAt, Begun, FromClosing, GoesOn}
use Rattle.quick.proofs.Beats.{beats_idle, beats-join, low_join}
use Rattle.quick.proofs.Parts.{bits-byte, bits_some, bits_behind, bits-within, reads, ran, ran-through, from-closing}

-- the state behind the byte of the closing at place x, after which the excess is e
abbrev pub first_byte : List ℕ → ℕ → ℕ → Scan
first_byte body x e =
    scan_of (begun e (8 * (x / 8) + x % 8)) (8 * (x / 8) + x % 8 + 1) (drop (x % 8 + 1) (low_bits 8 (get_or body (x / 8) 0)))

-- a scan that began there and has read the byte
pub byte-begun : {body : List ℕ} {x e at b q e' : ℕ} {r : Scan} → Begun body x e at b q e' → r ≡ scan_of (begun e' (at + q)) (at + q + 1) (drop (q + 1) (low_bits 8 b)) → r ≡ first_byte body x e
byte-begun {body} {x} {e} start is = rw (start.first, start.byte, start.bit, start.excess) at is

-- the same up to before its bit k
pub bits-begun : {body : List ℕ} {x e at b q e' : ℕ} (k : ℕ) {r : Scan} → Begun body x e at b q e' → r ≡ scan_of (begun e' (at + q)) (at + q + 1) (drop (q + 1) (take k (low_bits 8 b)))
    → r ≡ scan_of (begun e (8 * (x / 8) + x % 8)) (8 * (x / 8) + x % 8 + 1) (drop (x % 8 + 1) (take k (low_bits 8 (get_or body (x / 8) 0))))
bits-begun {body} {x} {e} k start is = rw (start.first, start.byte, start.bit, start.excess) at is

-- reading never raises the smallest
pub runs_below : {st : Scan} {at : ℕ} {part : List ℕ} {stop : ℕ} {r : Scan} → Runs st at part stop r → r.smallest ≤ st.smallest
runs_below {st} {at} {part} runs = rw runs.read (scan_below st at (all_bits (take runs.count part)))

-- a run over at most 31 bytes leaves room for one more
pub runs_ready : {st : Scan} {at : ℕ} {part : List ℕ} {stop : ℕ} {r : Scan} → length part ≤ 31 → Ready st 256 → Runs st at part stop r → Ready r 8
runs_ready {st} {at} {part} {stop} {r} h ready runs =
    let c = runs.count in
    let l : length (all_bits (take c part)) ≡ 8 * c = all_bits-length (take c part) ∙ ap (8 *◌) (length-take-le c part runs.some) in
    let s = runs.some in
    subst⁻¹ (λ (x : Scan). Ready x 8) runs.read
    (ready_after st at 8 (all_bits (take c part)) (ready-fewer st _ 256 (omega arith) ready))

module _ (self : Body) where
  abbrev body : List ℕ
  body = self.bytes.now

  -- ---- on from a state, up to before place b

  module _ (st : Scan) (f w stop : ℕ) (mid : Scan) (fits : f + w ≤ length body) (runs : Runs st (8 * f) (take w (drop f body)) stop mid) where
    -- it has come as low as stop
    goes-stopped : (b : ℕ) → 8 * f + 8 * w ≤ b → mid.smallest ≤ stop → GoesOn body (8 * f) b st stop mid
    goes-stopped b h low =
        record {
          bound = runs_below runs;
          right = λ true bounds.
              beats-join (height body)
              (ran self st f w stop mid fits true runs (λ p g l. bounds p g (omega arith)))
              (beats_idle (height body) (8 * f + 8 * w) b mid (λ p g l. le_trans low (bounds p (omega arith) l)))
              (omega arith) h;
        }

    -- it was read to its end, and then k parentheses of the next byte
    goes_through : (k : ℕ) (r : Scan) → k ≤ 8 → f + w < length body → stop < mid.smallest
        → r ≡ scan_of mid (8 * (f + w)) (take k (low_bits 8 (get_or body (f + w) 0))) → GoesOn body (8 * f) (8 * (f + w) + k) st stop r
    goes_through k r h l high is =
        record {
          bound = le_trans (rw is (scan_below mid (8 * (f + w)) (take k (low_bits 8 (get_or body (f + w) 0))))) (runs_below runs);
          right = λ true bounds.
              let all = ran-through self st f w stop mid fits true runs high in
              let e : 8 * f + 8 * w ≡ 8 * (f + w) = omega arith in
              let g : 8 * (f + w) + 0 ≡ 8 * (f + w) = omega arith in
              let more = reads self mid (8 * (f + w)) k (omega arith) (all.level-now ∙ ap (level body) e) (is ∙ ap (scan_of mid (8 * (f + w))) (bits_some (f + w) body 0 k l (omega arith) ∙ ap (λ (p : ℕ). take k (drop p (all_bits body))) g)) in
              beats-join (height body) (rw e at all.beats) more.beats (omega arith) (omega arith);
        }

    -- all of it
    pub goes-all : GoesOn body (8 * f) (8 * f + 8 * w) st stop mid
    goes-all = record { bound = runs_below runs; right = λ true bounds. ran self st f w stop mid fits true runs bounds }

  -- ---- on from the closing at place x, after which the excess is e

  module _ (c : Closing) where
    abbrev x : ℕ
    x = c.place

    abbrev e : ℕ
    e = c.excess

    place : 8 * (x / 8) + x % 8 ≡ x
    place = omega arith

    -- a scan can begin with it
    pub begins : x < 8 * length body → get_or (all_bits body) x opening ≡ closing → Begins (8 * (x / 8)) (get_or body (x / 8) 0) (x % 8) e
    begins h closes =
        let f = self.few in
        let bits : get_or (low_bits 8 (get_or body (x / 8) 0)) (x % 8) opening ≡ get_or (all_bits body) x opening =
        ap (λ (s : List Paren). get_or s (x % 8) opening) (bits-byte (x / 8) body (omega arith))
        ∙ get_or-take 8 (drop (8 * (x / 8)) (all_bits body)) (x % 8) opening (omega arith)
        ∙ get_or-drop (8 * (x / 8)) (all_bits body) (x % 8) opening
        ∙ ap (λ (p : ℕ). get_or (all_bits body) p opening) place in
        let l = c.near.above in
        let u = c.near.below in
        record { closes = bits ∙ closes; room = omega arith; high = omega arith; near = omega arith }

    rest-length : length (drop (x % 8 + 1) (low_bits 8 (get_or body (x / 8) 0))) ≤ 7
    rest-length = omega (arith, length-drop (x % 8 + 1) (low_bits 8 (get_or body (x / 8) 0)), low_bits-length 8 (get_or body (x / 8) 0))

    module _ (k : ℕ) (at_x : ClosingAt body k x) where
      within : x / 8 < length body
      within = let h = at_x.within in omega arith

      module _ (here : Scan) (is : here ≡ first_byte body x e) where
        pub here-ready : Ready here 256
        here-ready =
            let l = c.near.above in
            let h = c.near.below in
            let r = rest-length in
            subst⁻¹ (λ (st : Scan). Ready st 256) is
            (ready_after (begun e (8 * (x / 8) + x % 8)) (8 * (x / 8) + x % 8 + 1) 256 (drop (x % 8 + 1) (low_bits 8 (get_or body (x / 8) 0)))
            (record { room = omega arith; high = omega arith; bound = omega arith }))

        here-below : here.smallest ≤ e
        here-below = rw is (scan_below (begun e (8 * (x / 8) + x % 8)) (8 * (x / 8) + x % 8 + 1) (drop (x % 8 + 1) (low_bits 8 (get_or body (x / 8) 0))))

        here-low : e ≡ height body x → Lowest (height body) x (8 * (x / 8 + 1)) here × (here.excess ≡ level body (8 * (x / 8 + 1)))
        here-low true =
            let h = within in
            let q = x % 8 in
            let end : x + 1 + (7 - q) ≡ 8 * (x / 8 + 1) = omega arith in
            let bits : here ≡ scan_of (begun e x) (x + 1) (take (7 - q) (drop (x + 1) (all_bits body))) =
            is ∙ rw place (ap (scan_of (begun e x) (x + 1)) (bits_behind (x / 8) body q h (omega arith) ∙ ap (λ (p : ℕ). take (7 - q) (drop (p + 1) (all_bits body))) place)) in
            rw end at (from-closing self x e (7 - q) (omega arith) true bits)

        -- what goes on from there
        from-here : (b stop : ℕ) (r : Scan) → 8 * (x / 8 + 1) ≤ b → GoesOn body (8 * (x / 8 + 1)) b here stop r → FromClosing body x b e stop r
        from-here b stop r h on =
            let l = c.near.below in
            record {
              bound = omega (arith, on.bound, here-below);
              right = λ true bounds.
                  let (low, true') = here-low true in
                  low_join (height body) (omega arith) h low (on.right true' (λ p g l. bounds p (omega arith) l));
            }

        -- to its block's end
        pub behind_all : (stop end : ℕ) (r : Scan) → end ≡ end_of body k → Runs here (8 * (x / 8 + 1)) (take (end - (x / 8 + 1)) (drop (x / 8 + 1) body)) stop r
            → FromClosing body x (8 * end_of body k) e stop r
        behind_all stop end r is runs =
            let h = at_x.within in
            let l = at_x.from in
            let u = at_x.upto in
            let f = x / 8 + 1 in
            let w = end - f in
            let sum : 8 * f + 8 * w ≡ 8 * end_of body k = omega arith in
            from-here (8 * end_of body k) stop r (omega arith) (rw sum at (goes-all here f w stop r (omega arith) runs))

        -- up to the closing at place y in a later byte
        module _ (y stop : ℕ) (mid : Scan) (at_y : ClosingAt body k y) (later : x / 8 + 1 ≤ y / 8)
            (runs : Runs here (8 * (x / 8 + 1)) (take (y / 8 - (x / 8 + 1)) (drop (x / 8 + 1) body)) stop mid) where
          pub within-stopped : mid.smallest ≤ stop → FromClosing body x (y + 1) e stop mid
          within-stopped low =
              let h = at_y.within in
              from-here (y + 1) stop mid (omega arith) (goes-stopped here (x / 8 + 1) (y / 8 - (x / 8 + 1)) stop mid (omega arith) runs (y + 1) (omega arith) low)

          pub within-through : (r : Scan) → stop < mid.smallest → r ≡ scan_of mid (8 * (y / 8)) (take (y % 8 + 1) (low_bits 8 (get_or body (y / 8) 0))) → FromClosing body x (y + 1) e stop r
          within-through r high through =
              let h = at_y.within in
              let m : x / 8 + 1 + (y / 8 - (x / 8 + 1)) ≡ y / 8 = omega arith in
              let n : 8 * (y / 8) + (y % 8 + 1) ≡ y + 1 = omega arith in
              from-here (y + 1) stop r (omega arith)
              (rw (m, n) at (goes_through here (x / 8 + 1) (y / 8 - (x / 8 + 1)) stop mid (omega arith) runs (y % 8 + 1) r (omega arith) (omega arith) high (rw m through)))

      -- up to before bit k of its own byte
      pub from-within : (y stop : ℕ) (r : Scan) → x / 8 ≡ y / 8 → x ≤ y
          → r ≡ scan_of (begun e (8 * (x / 8) + x % 8)) (8 * (x / 8) + x % 8 + 1) (drop (x % 8 + 1) (take (y % 8 + 1) (low_bits 8 (get_or body (x / 8) 0))))
          → FromClosing body x (y + 1) e stop r
      from-within y stop r same h is =
          let b = c.near.below in
          let w = within in
          let n : y % 8 + 1 - (x % 8 + 1) ≡ y - x = omega arith in
          let end : x + 1 + (y - x) ≡ y + 1 = omega arith in
          let bits : r ≡ scan_of (begun e x) (x + 1) (take (y - x) (drop (x + 1) (all_bits body))) =
          is ∙ rw place (ap (scan_of (begun e x) (x + 1)) (bits-within (x / 8) body (x % 8) (y % 8 + 1) w (omega arith) (omega arith) ∙ rw (n, place))) in
          record {
            bound = let l : r.smallest ≤ e = rw is (scan_below (begun e (8 * (x / 8) + x % 8)) (8 * (x / 8) + x % 8 + 1) (drop (x % 8 + 1) (take (y % 8 + 1) (low_bits 8 (get_or body (x / 8) 0))))) in omega arith;
            right = λ true bounds. rw end at (from-closing self x e (y - x) (omega arith) true bits).0;
          }

  -- ---- all of a block

  pub whole_all : (k stop : ℕ) (st r : Scan) → 32 * k ≤ length body → (end : ℕ) → end ≡ end_of body k
      → Runs st (256 * k) (take (end - 32 * k) (drop (32 * k) body)) stop r → GoesOn body (256 * k) (8 * end_of body k) st stop r
  whole_all k stop st r h end e' runs =
      let e : 256 * k ≡ 8 * (32 * k) = omega arith in
      let sum : 8 * (32 * k) + 8 * (end - 32 * k) ≡ 8 * end_of body k = omega arith in
      rw e (rw sum at (goes-all st (32 * k) (end - 32 * k) stop r (omega arith) (rw e at runs)))

-- ---- parts

-- at most 31 bytes of a part can be read
pub ready_part : {st : Scan} (w f : ℕ) (body : List ℕ) → w ≤ 31 → Ready st 256 → Ready st (8 * length (take w (drop f body)))
ready_part {st} w f body h ready = ready-fewer st _ 256 (omega (arith, length-take w (drop f body))) ready

pub part_length : (w f : ℕ) (body : List ℕ) → length (take w (drop f body)) ≤ w
part_length w f body = omega (arith, length-take w (drop f body))
