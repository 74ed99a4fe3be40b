-- The pen's steps: parentheses are put in front of those held, or fill a byte, which is stored. One law for each, over the parentheses.
-- Assumes nothing.
use mathlib.Core.Path.{◌≡◌, refl, ap, sym, ◌∙◌}
use Prim.Native.Nat.{ℕ, suc, ◌+◌, ◌-◌, ◌*◌, ◌%◌, ◌^◌, ◌≤◌, ◌<◌}
use native.Mathlib.Nat.{mod-eq_of_lt, lt_of_lt_of_le, sub-zero}
use native.Mathlib.Numerals.{add-one}
use native.Mathlib.Omega.{arith}
use mathlib.Core.List.{List, [], ◌∷◌, ◌++◌, append_assoc}
use lib.ListN.{length, take, drop, set, replicate, length-set, length-append, length-replicate, replicate-append-replicate}
use lib.Seq.{take-append-add, drop-append-add, drop-cons, drop-set-lt, get_or-set_same}
use lib.Pow.{pow_mono}
use Rattle.rules.specs.Shape.{Paren, opening, closing}
use Rattle.rules.specs.Bytes.{bit, bits, bytes_of}
use Rattle.rules.proofs.Bits.{bits-opened, bits_below}
use Rattle.std.proofs.Common.{MutBor}
use Rattle.build.specs.declared.pen.Pen.{Pen}
use Rattle.build.specs.Writes.{Ready, Writes}

-- v is the number of the parentheses a in front of those that p holds
pub record Adds (a : List Paren) (p : Pen) (v : ℕ) : Type 0 where
  pub is : (s : List Paren) → p.acc ≡ bits (take p.held s) → v ≡ bits (a ++ take p.held s)

-- fewer than eight are held
pub holds_more : (a : List Paren) (p : Pen) (o : MutBor (List ℕ)) (h v : ℕ) → o.now ≡ p.body.now → length a + p.held ≡ h → h < 8 → Adds a p v
    → Writes a p (record { body = o; left = p.left; held = h; acc = v })
holds_more a p o h v is e few adds =
    record {
      room = omega arith;
      same = rw is;
      front = λ {s} w. record {
        few = few;
        within = rw is w.within;
        holds = rw (← e, take-append-add) (adds.is s w.holds);
        bytes = rw (is, ← e, drop-append-add) w.bytes;
      };
    }

drop_set : (o : List ℕ) (j v : ℕ) → j < length o → drop j (set o j v) ≡ v ∷ drop (suc j) o
drop_set o j v h =
    let g : j < length (set o j v) = rw length-set h in
    rw (drop-cons (set o j v) j 0 g, get_or-set_same o j v 0 h) (ap (λ (l : List ℕ). v ∷ l) (drop-set-lt (suc j) o j v (omega arith)))

-- eight parentheses are one byte
byte : (a s : List Paren) (h k : ℕ) → length a + h ≡ 8 → bytes_of (suc k) (a ++ s) ≡ bits (a ++ take h s) ∷ bytes_of k (drop h s)
unfolding bytes_of
byte a s h k e = rw (← e, take-append-add, drop-append-add)

-- eight are held: the byte is stored, and the pen holds nothing
pub stores : (a : List Paren) (p : Pen) (o : MutBor (List ℕ)) (v : ℕ) → o.now ≡ set p.body.now (p.left - 1) v → length a + p.held ≡ 8 → 0 < p.left
    → p.left ≤ length p.body.now → Adds a p v → Writes a p (record { body = o; left = p.left - 1; held = 0; acc = 0 })
unfolding bits
stores a p o v is e some fits adds =
    let size : length o.now ≡ length p.body.now = rw is (length-set p.body.now _ v) in
    record {
      room = omega arith;
      same = size;
      front = λ {s} w.
          let less : length o.now - (p.left - 1) ≡ suc (length p.body.now - p.left) = omega arith in
          let next : suc (p.left - 1) ≡ p.left = omega arith in
          record {
            few = omega arith;
            within = omega arith;
            holds = refl;
            bytes = rw (less, is, drop_set p.body.now (p.left - 1) v (omega arith), next, byte a s p.held (length p.body.now - p.left) e, ← (adds.is s w.holds), w.bytes);
          };
    }

-- eight parentheses or fewer are a byte's number
small : (a s : List Paren) (h : ℕ) → length a + h ≤ 8 → bits (a ++ take h s) < 256
small a s h le = rw (← (take-append-add a s h)) (lt_of_lt_of_le (bits_below (length a + h) (a ++ s)) (pow_mono le))

-- the shift gives one more than the number of k openings in front of those held
shifted : (s : List Paren) (h k acc : ℕ) → acc ≡ bits (take h s) → k + h ≤ 8 → ((acc + 1) * 2 ^ k) % 2 ^ 32 ≡ suc (bits (replicate k opening ++ take h s))
shifted s h k acc e le =
    let few : length (replicate k opening) + h ≤ 8 = rw length-replicate le in
    let is : (acc + 1) * 2 ^ k ≡ suc (bits (replicate k opening ++ take h s)) = rw (add-one, e) (sym (bits-opened k (take h s))) in
    rw is (mod-eq_of_lt (omega (arith, small (replicate k opening) s h few)))

-- so nothing is lost in the shift or the cast
pub shift_fits : {p : Pen} {j : ℕ} → Ready p j → (k : ℕ) → k + p.held ≤ 8
    → (p.acc < 256) × (1 ≤ ((p.acc + 1) * 2 ^ k) % 2 ^ 32) × (((p.acc + 1) * 2 ^ k) % 2 ^ 32 ≤ 256)
shift_fits {p} r k le =
    let is = shifted r.s p.held k p.acc r.penned.holds le in
    let few : length (replicate k opening) + p.held ≤ 8 = rw length-replicate le in
    let few₀ : 0 + p.held ≤ 8 = omega arith in
    omega (arith, small (replicate k opening) r.s p.held few, small [] r.s p.held few₀, r.penned.holds)

-- the numbers that the code computes
pub adds_opened : (p : Pen) (k : ℕ) → k + p.held ≤ 8 → Adds (replicate k opening) p (((p.acc + 1) * 2 ^ k) % 2 ^ 32 - 1)
adds_opened p k le = record { is = λ s e. omega (arith, shifted s p.held k p.acc e le) }

pub adds_closed : (p : Pen) → Adds (closing ∷ []) p (p.acc * 2)
unfolding bits bit
adds_closed p = record { is = λ s e. omega arith }

pub adds_byte : {a : List Paren} {p : Pen} {k v : ℕ} → Ready p k → Adds a p v → length a + p.held ≤ 8 → v < 256
adds_byte {a} {p} r adds le = rw (adds.is r.s r.penned.holds) (small a r.s p.held le)

-- one run after another
pub and_then : {a b : List Paren} {p q r : Pen} → Writes a p q → Writes b q r → Writes (b ++ a) p r
and_then {a} {b} u v =
    record {
      room = omega (arith, u.room, v.room, length-append b a);
      same = v.same ∙ u.same;
      front = λ {s} w. rw append_assoc (v.front (u.front w));
    }

-- what has room after a run
pub goes_on : {a : List Paren} {p q : Pen} {j k : ℕ} → Ready p k → Writes a p q → length a + j ≤ k → Ready q j
goes_on {a} {p} {q} r w le =
    record {
      s = a ++ r.s;
      penned = w.front r.penned;
      room = omega arith;
    }

-- part of a run of openings is written, the rest has room
pub record Opening (count : ℕ) (p : Pen) (more : ℕ) (q : Pen) : Type 0 where
  pub fewer : more ≤ count
  pub ready : Ready q more
  pub writes : Writes (replicate (count - more) opening) p q

pub more-opened : (j : ℕ) {count more i : ℕ} {p q q' : Pen} → Opening count p more q → i + j ≡ more → Writes (replicate j opening) q q' → Opening count p i q'
more-opened j {count} {more} {i} u e w =
    let sum : j + (count - more) ≡ count - i = omega (arith, u.fewer) in
    record {
      fewer = omega (arith, u.fewer);
      ready = goes_on u.ready w (rw length-replicate (omega arith));
      writes = rw (← sum, ← (replicate-append-replicate j (count - more) opening)) (and_then u.writes w);
    }

pub all_opened : {count : ℕ} {p q : Pen} → Opening count p 0 q → Writes (replicate count opening) p q
all_opened u = rw sub-zero at u.writes
