-- What the parts of a body give when they are read: bytes from one place to another, and the byte in which a closing stands.
-- Assumes nothing.
use mathlib.Core.Path.{◌≡◌, sym, ap, subst, subst⁻¹, ◌∙◌}
use mathlib.Core.Logic.{⊎_elim}
use Prim.Native.Nat.{ℕ, suc, ◌+◌, ◌-◌, ◌*◌, ◌≤◌, ◌<◌}
use native.Mathlib.Nat.{le_refl, le_trans}
use native.Mathlib.Numerals.{add-one}
use native.Mathlib.Omega.{arith}
use mathlib.Core.List.{List}
use lib.ListN.{length, take, drop, get_or, length-drop}
use lib.Seq.{take_at, take-take, drop-drop, length-take-le, drop-cons, take_all}
use Rattle.rules.specs.Shape.{Paren}
use Rattle.rules.specs.Excess.{excess}
use Rattle.rules.specs.Bytes.{low_bits, all_bits}
use Rattle.std.proofs.lemmas.List.{drop-take}
use Rattle.rules.proofs.Bytes.{low_bits-length, all_bits-length, all_bits-take, all_bits-drop}
use Rattle.scan.specs.declared.Scan.{Scan}
use Rattle.scan.specs.Scan.{scan_of}
use Rattle.ask.specs.Byte.{begun}
use Rattle.quick.specs.declared.part.Body.{Body}
use Rattle.quick.specs.Lowest.{Lowest, Beats}
use Rattle.quick.specs.Part.{ground_level, height, level, Runs, Bounds}
use Rattle.quick.proofs.Beats.{beats_idle, beats-join, low_join, Scanned, scanned}

-- ---- bits of a part

pub bits-byte : (m : ℕ) (bs : List ℕ) → m < length bs → low_bits 8 (get_or bs m 0) ≡ take 8 (drop (8 * m) (all_bits bs))
unfolding all_bits
bits-byte m bs h =
    sym (take_at (low_bits 8 (get_or bs m 0)) (all_bits (drop (suc m) bs)) 8 (low_bits-length 8 (get_or bs m 0)))
    ∙ ap (take 8) (sym (ap all_bits (drop-cons bs m 0 h)) ∙ all_bits-drop m bs)

-- some of the first n
some_of : {A : Type 0} (k x n : ℕ) (w : List A) → x + k ≤ n → take k (drop x (take n w)) ≡ take k (drop x w)
some_of k x n w h =
    let e : x + (n - x) ≡ n = omega arith in
    ap (take k) (rw e at (drop-take x (n - x) w)) ∙ take-take k (n - x) (drop x w) (omega arith)

-- k bits of byte m from bit x on
pub bits_some : (m : ℕ) (bs : List ℕ) (x k : ℕ) → m < length bs → x + k ≤ 8 → take k (drop x (low_bits 8 (get_or bs m 0))) ≡ take k (drop (8 * m + x) (all_bits bs))
bits_some m bs x k h l =
    ap (λ (s : List Paren). take k (drop x s)) (bits-byte m bs h)
    ∙ some_of k x 8 (drop (8 * m) (all_bits bs)) l
    ∙ ap (take k) (drop-drop x (8 * m) (all_bits bs))

-- those behind bit x, up to the byte's end or up to before bit k
pub bits_behind : (m : ℕ) (bs : List ℕ) (x : ℕ) → m < length bs → x < 8 → drop (x + 1) (low_bits 8 (get_or bs m 0)) ≡ take (7 - x) (drop (8 * m + x + 1) (all_bits bs))
bits_behind m bs x h l =
    let b = low_bits 8 (get_or bs m 0) in
    let e : 8 * m + (x + 1) ≡ 8 * m + x + 1 = omega arith in
    sym (take_all (7 - x) (drop (x + 1) b) (omega (arith, length-drop (x + 1) b, low_bits-length 8 (get_or bs m 0))))
    ∙ bits_some m bs (x + 1) (7 - x) h (omega arith)
    ∙ ap (λ (p : ℕ). take (7 - x) (drop p (all_bits bs))) e

pub bits-within : (m : ℕ) (bs : List ℕ) (x k : ℕ) → m < length bs → x < k → k ≤ 8
    → drop (x + 1) (take k (low_bits 8 (get_or bs m 0))) ≡ take (k - (x + 1)) (drop (8 * m + x + 1) (all_bits bs))
bits-within m bs x k h l n =
    let b = low_bits 8 (get_or bs m 0) in
    let e : 8 * m + (x + 1) ≡ 8 * m + x + 1 = omega arith in
    let t : length (take k b) ≡ k = length-take-le k b (omega (arith, low_bits-length 8 (get_or bs m 0))) in
    sym (take_all (k - (x + 1)) (drop (x + 1) (take k b)) (omega (arith, length-drop (x + 1) (take k b))))
    ∙ some_of (k - (x + 1)) (x + 1) k b (omega arith)
    ∙ bits_some m bs (x + 1) (k - (x + 1)) h (omega arith)
    ∙ ap (λ (p : ℕ). take (k - (x + 1)) (drop p (all_bits bs))) e

-- ---- what is read

module _ (self : Body) where
  abbrev body : List ℕ
  body = self.bytes.now

  long : length (all_bits body) ≡ 8 * length body
  long = all_bits-length body

  pub high : length (all_bits body) ≤ ground_level
  high = let f = self.few in omega (arith, long)

  -- k parentheses from place p on, in any state whose excess is the true one
  abbrev pub Reads : Scan → ℕ → ℕ → Scan → Type 0
  Reads = Scanned ground_level (all_bits body) high

  pub reads : (st : Scan) (p k : ℕ) {r : Scan} → p + k ≤ 8 * length body → st.excess ≡ level body p → r ≡ scan_of st p (take k (drop p (all_bits body))) → Reads st p k r
  reads st p k h e f = subst⁻¹ (Reads st p k) f (scanned ground_level (all_bits body) high st p k (omega (arith, long)) e)

  -- bytes f up to before f + w, or fewer
  module _ (st : Scan) (f w stop : ℕ) (r : Scan) (fits : f + w ≤ length body) (true : st.excess ≡ level body (8 * f))
      (runs : Runs st (8 * f) (take w (drop f body)) stop r) where
    some : runs.count ≤ w
    some = let s = runs.some in omega (arith, length-take-le w (drop f body) (omega (arith, length-drop f body)))

    read : Reads st (8 * f) (8 * runs.count) r
    read =
        let c = runs.count in
        let h = some in
        reads st (8 * f) (8 * c) (omega arith) true
        (runs.read ∙ ap (scan_of st (8 * f)) (ap all_bits (take-take c w (drop f body) h) ∙ all_bits-take c (drop f body) ∙ ap (take (8 * c)) (all_bits-drop f body)))

    pub ran-through : stop < r.smallest → Reads st (8 * f) (8 * w) r
    ran-through h =
        ⊎_elim (λ e. subst (λ (c : ℕ). Reads st (8 * f) (8 * c) r) (e ∙ length-take-le w (drop f body) (omega (arith, length-drop f body))) read)
        (λ l. absurd (omega arith)) runs.done

    pub ran : Bounds body (8 * f) (8 * f + 8 * w) stop → Beats (height body) (8 * f) (8 * f + 8 * w) st.smallest st.place r
    ran bounds =
        ⊎_elim (λ e. (subst (λ (c : ℕ). Reads st (8 * f) (8 * c) r) (e ∙ length-take-le w (drop f body) (omega (arith, length-drop f body))) read).beats)
        (λ l. beats-join (height body) read.beats (beats_idle (height body) (8 * f + 8 * runs.count) (8 * f + 8 * w) r (λ p g h. le_trans l (bounds p (omega arith) h))) (omega arith) (omega (arith, some)))
        runs.done

  -- ---- from a closing on

  -- the first parenthesis of a scan, at place x, after which the excess is the true one
  begins_low : (x e : ℕ) → e ≡ height body x → Lowest (height body) x (suc x) (begun e x)
  begins_low x e h =
      record {
        from = le_refl x;
        upto = le_refl (suc x);
        here = h;
        before = λ p g l. absurd (omega arith);
        after = λ p g l. let f : p ≡ x = omega arith in rw (f, h) (le_refl (height body x));
      }

  -- and k parentheses behind it
  pub from-closing : (x e k : ℕ) {r : Scan} → x + 1 + k ≤ 8 * length body → e ≡ height body x → r ≡ scan_of (begun e x) (x + 1) (take k (drop (x + 1) (all_bits body)))
      → Lowest (height body) x (x + 1 + k) r × (r.excess ≡ level body (x + 1 + k))
  unfolding excess
  from-closing x e k {r} h f g =
      let w = reads (begun e x) (x + 1) k h f g in
      (low_join (height body) (omega arith) (omega arith) (rw (← (add-one x)) at (begins_low x e f)) w.beats, w.level-now)
