-- Up to a closing that is met on the way: the bytes of a block are read until more closings are counted than stand before it.
-- Assumes nothing.
use mathlib.Core.Path.{◌≡◌, sym, ap, subst⁻¹, ◌∙◌}
use Prim.Native.Nat.{ℕ, ◌+◌, ◌-◌, ◌*◌, ◌/◌, ◌≤◌, ◌<◌}
use native.Mathlib.Nat.{le_refl, le_trans}
use native.Mathlib.Omega.{arith}
use mathlib.Core.List.{List}
use lib.ListN.{length, take, drop, get_or}
use lib.Seq.{length-take-le, take_all}
use Rattle.rules.specs.Shape.{Paren}
use Rattle.rules.specs.Excess.{closings, closing_place}
use Rattle.rules.specs.Bytes.{low_bits, all_bits}
use Rattle.rules.proofs.Bytes.{low_bits-length, all_bits-length}
use Rattle.rules.proofs.Excess.{counts-length}
use Rattle.rules.proofs.ClosingPlace.{closing-within}
use Rattle.rules.proofs.Blocks.{closing-from, closing_behind, in_part}
use Rattle.scan.specs.declared.Scan.{Scan}
use Rattle.scan.specs.Scan.{Ready, scan_of}
use Rattle.scan.proofs.Laws.{ready_after, ready-fewer, scan_below}
use Rattle.quick.specs.declared.part.Body.{Body}
use Rattle.quick.specs.Lowest.{Beats}
use Rattle.quick.specs.Part.{ground_level, height, level, end_of, EndsIn, Reaches}
use Rattle.quick.proofs.Beats.{beats-join}
use Rattle.quick.proofs.Parts.{bits-byte, bits_some, Reads, reads}

-- ---- the byte of the closing

pub place_low : (b i : ℕ) → i < closings (low_bits 8 b) → closing_place (low_bits 8 b) i < 8
place_low b i h = omega (arith, closing-within (low_bits 8 b) i h, low_bits-length 8 b)

module _ (here : Scan) (at b j : ℕ) where
  -- up to the closing, where it is in this byte; where it is not, the excess was no true one
  pub ends_there : (x : ℕ) (r : Scan) → x ≡ closing_place (low_bits 8 b) ((2 * j + here.excess - (at + ground_level)) / 2)
      → r ≡ scan_of here at (take (x + 1) (low_bits 8 b)) → EndsIn here at b j r
  ends_there x r stands is =
      record {
        bound = rw is (scan_below here at (take (x + 1) (low_bits 8 b)));
        right = λ i e l.
            let f : (2 * j + here.excess - (at + ground_level)) / 2 ≡ i = omega arith in
            is ∙ ap (λ (p : ℕ). scan_of here at (take (p + 1) (low_bits 8 b))) (stands ∙ ap (closing_place (low_bits 8 b)) f);
      }

-- ---- the bytes before it

-- how many closings there are before place p, by the excess there
level-counts : (self : Body) (p : ℕ) → p ≤ 8 * length self.bytes.now → level self.bytes.now p + 2 * closings (take p (all_bits self.bytes.now)) ≡ ground_level + p
level-counts self p h =
    let f = self.few in
    let l : length (take p (all_bits self.bytes.now)) ≡ p = length-take-le p (all_bits self.bytes.now) (omega (arith, all_bits-length self.bytes.now)) in
    omega (arith, counts-length (take p (all_bits self.bytes.now)))

module _ (self : Body) (k j : ℕ) (st : Scan) where
  abbrev body : List ℕ
  body = self.bytes.now

  -- the place of closing j
  abbrev pub at_j : ℕ
  at_j = closing_place (all_bits body) j

  -- it stands in block k, and the excess before the block is the true one
  pub record Sought : Type 0 where
    pub among : j < closings (all_bits body)
    pub there : at_j / 256 ≡ k
    pub level_first : st.excess ≡ level body (256 * k)

  pub record Read (m : ℕ) (here : Scan) : Type 0 where
    pub level-now : here.excess ≡ level body (8 * m)
    pub beats : Beats (height body) (256 * k) (8 * m) st.smallest st.place here
    pub ahead : 8 * m ≤ at_j

  -- the bytes of the block before byte m are read, and the closing does not stand in them
  pub record Walks (m : ℕ) (here : Scan) : Type 0 where
    pub from : 32 * k ≤ m
    pub upto : m ≤ end_of body k
    pub ready : Ready here (8 * (32 * k + 32 - m))
    pub bound : here.smallest ≤ st.smallest
    pub right : Sought → Read m here

  module _ (m : ℕ) (here : Scan) (walk : Walks m here) where
    -- it has come as low as stop
    -- the block is read to its end, so the closing does not stand in it
    pub reach_none : (stop : ℕ) → end_of body k ≤ m → Reaches body k j st stop here
    reach_none stop h =
        record {
          bound = walk.bound;
          right = λ among there. record {
            bound = walk.bound;
            right = λ true bounds.
                let read = walk.right (record { among = among; there = there; level_first = true }) in
                let a = read.ahead in
                absurd (omega (arith, closing-within (all_bits body) j among, all_bits-length body));
          };
        }

    -- ---- one byte more

    module _ (within : m < end_of body k) where
      pub room : Ready here 8
      room = ready-fewer here 8 _ (omega arith) walk.ready

      -- c of its bits
      some_read : (c : ℕ) (r : Scan) → c ≤ 8 → here.excess ≡ level body (8 * m) → r ≡ scan_of here (8 * m) (take c (low_bits 8 (get_or body m 0)))
          → Reads self here (8 * m) c r
      some_read c r h e is =
          let g : 8 * m + 0 ≡ 8 * m = omega arith in
          reads self here (8 * m) c (omega arith) e
          (is ∙ ap (scan_of here (8 * m)) (bits_some m body 0 c (omega arith) (omega arith) ∙ ap (λ (p : ℕ). take c (drop p (all_bits body))) g))

      module _ (next : Scan) (is : next ≡ scan_of here (8 * m) (low_bits 8 (get_or body m 0))) where
        pub next_ready : Ready next (8 * (32 * k + 32 - (m + 1)))
        next_ready =
            subst⁻¹ (λ (x : Scan). Ready x (8 * (32 * k + 32 - (m + 1)))) is
            (ready_after here (8 * m) (8 * (32 * k + 32 - (m + 1))) (low_bits 8 (get_or body m 0))
            (ready-fewer here _ _ (omega (arith, low_bits-length 8 (get_or body m 0))) walk.ready))

        byte-read : here.excess ≡ level body (8 * m) → Reads self here (8 * m) 8 next
        byte-read e =
            let b = low_bits 8 (get_or body m 0) in
            some_read 8 next (le_refl 8) e (is ∙ ap (scan_of here (8 * m)) (sym (take_all 8 b (omega (arith, low_bits-length 8 (get_or body m 0))))))

        -- no more than j closings stand before the next one
        pub walks_on : 8 * m + 8 + ground_level < 2 * j + 2 + next.excess → Walks (m + 1) next
        walks_on few =
            record {
              from = omega (arith, walk.from);
              upto = omega arith;
              ready = next_ready;
              bound = le_trans (rw is (scan_below here (8 * m) (low_bits 8 (get_or body m 0)))) walk.bound;
              right = λ s.
                  let read = walk.right s in
                  let on = byte-read read.level-now in
                  let e : 8 * m + 8 ≡ 8 * (m + 1) = omega arith in
                  let now : next.excess ≡ level body (8 * (m + 1)) = on.level-now ∙ ap (level body) e in
                  let f = walk.from in
                  let counts = level-counts self (8 * (m + 1)) (omega arith) in
                  record {
                    level-now = now;
                    beats = beats-join (height body) read.beats (rw e at on.beats) (omega arith) (omega arith);
                    ahead = closing_behind (all_bits body) j (8 * (m + 1)) s.among (omega arith);
                  };
            }

        -- more than j do: the closing stands in this byte
        pub reach_found : (stop : ℕ) (r : Scan) → 2 * j + 2 + next.excess ≤ 8 * m + 8 + ground_level → EndsIn here (8 * m) (get_or body m 0) j r → Reaches body k j st stop r
        reach_found stop r more ends =
            record {
              bound = le_trans ends.bound walk.bound;
              right = λ among there. record { bound = le_trans ends.bound walk.bound; right = λ true bounds. through (record { among = among; there = there; level_first = true }) };
            }
          where
            through : Sought → Beats (height body) (256 * k) (at_j + 1) st.smallest st.place r
            through s =
                let read = walk.right s in
                let u = all_bits body in
                let b = low_bits 8 (get_or body m 0) in
                let i = j - closings (take (8 * m) u) in
                let before = level-counts self (8 * m) (omega arith) in
                let behind = level-counts self (8 * m + 8) (omega arith) in
                let now = read.level-now in
                let then = (byte-read now).level-now in
                let passed : closings (take (8 * m) u) ≤ j = closing-from u j (8 * m) s.among read.ahead in
                let here_in = in_part u (8 * m) 8 j passed (omega arith) in
                let same : b ≡ take 8 (drop (8 * m) u) = bits-byte m body (omega arith) in
                let among : i < closings b = rw same here_in.among in
                let x = closing_place b i in
                let stands : at_j ≡ 8 * m + x = here_in.stands ∙ ap (λ (w : List Paren). 8 * m + closing_place w i) (sym same) in
                let low = place_low (get_or body m 0) i among in
                let is-r : r ≡ scan_of here (8 * m) (take (x + 1) b) = ends.right i (omega arith) among in
                let end : 8 * m + (x + 1) ≡ at_j + 1 = omega arith in
                let f = walk.from in
                beats-join (height body) read.beats (rw end at (some_read (x + 1) r (omega arith) now is-r).beats) (omega arith) (omega arith)
