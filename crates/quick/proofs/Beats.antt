-- What scans over neighbouring stretches have found together, and that a scan of the bytes finds it.
-- Assumes nothing.
use mathlib.Core.Path.{◌≡◌, refl, sym, ap, subst⁻¹, ◌∙◌}
use Prim.Native.Nat.{ℕ, zero, suc, pred, ◌+◌, ◌-◌, ◌≤◌, ◌<◌}
use native.Mathlib.Nat.{add-zero, add-suc, le_refl, le_trans, lt_of_lt_of_le, le_of_lt, lt_irrefl}
use native.Mathlib.Numerals.{add-one}
use native.Mathlib.Omega.{arith}
use mathlib.Core.Bool.{Bool, true, false, cond}
use mathlib.Core.List.{List, [], ◌∷◌, ◌++◌}
use mathlib.Core.Logic.{⊎_elim}
use Rattle.std.proofs.lemmas.Bool.{cases_lt}
use borrow.Author.Tests.{ltb-true, ltb-false}
use lib.Dec.{ltb}
use lib.ListN.{length, take, drop, get_or, length-drop}
use lib.Seq.{take-suc, get_or-drop, length-take-le}
use Rattle.rules.specs.Shape.{Paren, opening, closing}
use Rattle.rules.specs.Excess.{openings, closings, excess}
use Rattle.rules.proofs.Excess.{openings-append, closings-append, counts-length}
use Rattle.scan.specs.declared.Scan.{Scan}
use Rattle.scan.specs.Scan.{seen, step_of, scan_of}
use Rattle.scan.proofs.Laws.{scan-append}
use Rattle.quick.specs.Lowest.{Lowest, Beats}

pub split : (a b : ℕ) {A : Type 0} → (a < b → A) → (b ≤ a → A) → A
split a b f g = ⊎_elim f g (cases_lt a b)

module _ (X : ℕ → ℕ) where
  -- nothing has been read yet
  pub beats_none : (a m q : ℕ) (st : Scan) → st.smallest ≡ m → st.place ≡ q → Beats X a a m q st
  beats_none a m q st e f =
      record {
        bound = omega arith;
        stands = λ l. (f, λ p g h. absurd (omega arith));
        lower = λ l. absurd (omega arith);
      }

  -- one excess more
  pub beats_seen : (a b m q : ℕ) (st : Scan) → a ≤ b → Beats X a b m q st → Beats X a (suc b) m q (seen st b (X b))
  beats_seen a b m q st h w = by (ltb (X b) st.smallest) refl
    where
      at-end : (p : ℕ) → a ≤ p → p < suc b → {A : Type 0} → (p < b → A) → (p ≡ b → A) → A
      at-end p g l f e = split p b f (λ k. e (omega arith))

      next : (t : Bool) → Scan
      next t = record { excess = X b; smallest = cond t (X b) st.smallest; place = cond t b st.place }

      -- every excess before b is above the smallest, or above m, so above what goes below both
      above : X b < st.smallest → (p : ℕ) → a ≤ p → p < b → X b < X p
      above l p g k =
          split st.smallest m (λ s. omega (arith, (w.lower s).after p g k)) (λ s. omega (arith, (w.stands s).1 p g k))

      by : (t : Bool) → ltb (X b) st.smallest ≡ t → Beats X a (suc b) m q (next t)
      by true e =
          let l = ltb-true (X b) st.smallest e in
          let w₀ = w.bound in
          record {
            bound = omega arith;
            stands = λ k. absurd (omega arith);
            lower = λ k. record {
              from = h;
              upto = omega arith;
              here = refl;
              before = λ p g u. above l p g u;
              after = λ p g u. at-end p g u (λ v. le_of_lt (above l p g v)) (λ v. rw v (le_refl (X b)));
            };
          }
      by false e =
          let l = ltb-false (X b) st.smallest e in
          record {
            bound = w.bound;
            stands = λ k. ((w.stands k).0, λ p g u. at-end p g u ((w.stands k).1 p g) (λ v. rw v (le_trans k l)));
            lower = λ k. let low = w.lower k in record {
              from = low.from;
              upto = omega (arith, low.upto);
              here = low.here;
              before = low.before;
              after = λ p g u. at-end p g u (low.after p g) (λ v. rw v l);
            };
          }

  -- nothing in the stretch is lower than what was seen before it
  pub beats_idle : (b c : ℕ) (st : Scan) → ((p : ℕ) → b ≤ p → p < c → st.smallest ≤ X p) → Beats X b c st.smallest st.place st
  beats_idle b c st h =
      record { bound = le_refl _; stands = λ l. (refl, h); lower = λ l. absurd (lt_irrefl _ l) }

  module _ {a b c m q : ℕ} {st st' : Scan} (one : Beats X a b m q st) (two : Beats X b c st.smallest st.place st') where
    first : (p : ℕ) → a ≤ p → p < b → {e : ℕ} → e ≤ st.smallest → e ≤ X p
    first p g h {e} l =
        split st.smallest m (λ s. omega (arith, (one.lower s).after p g h)) (λ s. omega (arith, (one.stands s).1 p g h, one.bound))

    -- a place of both stretches is a place of one of them
    either : (p : ℕ) {A : Type 0} → (p < b → A) → (b ≤ p → A) → A
    either p f g = split p b f g

    later : st'.smallest < st.smallest → a ≤ b → Lowest X a c st'
    later l h =
        let low = two.lower l in
        record {
          from = omega (arith, low.from);
          upto = low.upto;
          here = low.here;
          before = λ p g k. either p (λ u. lt_of_lt_of_le l (first p g u (le_refl _))) (λ u. low.before p u k);
          after = λ p g k. either p (λ u. first p g u (le_of_lt l)) (λ u. low.after p u k);
        }

    kept : st.smallest ≤ st'.smallest → st.smallest < m → b ≤ c → Lowest X a c st'
    kept s l h =
        let low = one.lower l in
        let (place, rest) = two.stands s in
        let e : st'.smallest ≡ st.smallest = omega (arith, two.bound) in
        record {
          from = rw place low.from;
          upto = rw place (omega (arith, low.upto));
          here = e ∙ low.here ∙ ap X (sym place);
          before = λ p g k. rw e (low.before p g (rw place at k));
          after = λ p g k. rw e (either p (λ u. low.after p g u) (λ u. rest p u k));
        }

    pub beats-join : a ≤ b → b ≤ c → Beats X a c m q st'
    beats-join h k =
        record {
          bound = omega (arith, one.bound, two.bound);
          stands = λ l.
              let (place, rest) = two.stands (omega (arith, one.bound)) in
              let (place₁, rest₁) = one.stands (omega (arith, two.bound)) in
              (place ∙ place₁, λ p g u. either p (λ v. rest₁ p g v) (λ v. le_trans (omega (arith, two.bound)) (rest p v u)));
          lower = λ l. split st'.smallest st.smallest (λ s. later s h) (λ s. kept s (omega arith) k);
        }

  -- everything before the stretch is higher, everything behind it not lower
  pub low_later : {a b c d : ℕ} {st : Scan} → a ≤ b → c ≤ d → Lowest X b c st → ((p : ℕ) → a ≤ p → p < b → st.smallest < X p)
      → ((p : ℕ) → c ≤ p → p < d → st.smallest ≤ X p) → Lowest X a d st
  low_later {a} {b} {c} {d} {st} h k low before after =
      record {
        from = omega (arith, low.from);
        upto = omega (arith, low.upto);
        here = low.here;
        before = λ p g l. split p b (λ u. before p g u) (λ u. low.before p u l);
        after = λ p g l. split p b (λ u. le_of_lt (before p g u)) (λ u. split p c (λ v. low.after p u v) (λ v. after p v l));
      }

  pub low_join : {a b c : ℕ} {st st' : Scan} → a ≤ b → b ≤ c → Lowest X a b st → Beats X b c st.smallest st.place st' → Lowest X a c st'
  low_join {a} {b} {c} {st} {st'} h k low two =
      let one : Beats X a b (suc st.smallest) 0 st =
      record { bound = omega arith; stands = λ l. absurd (omega arith); lower = λ l. low } in
      (beats-join one two h k).lower (omega (arith, two.bound))

-- ---- a scan of parentheses

-- the excess before place p
abbrev pub level : ℕ → List Paren → ℕ → ℕ
level g u p = g + openings (take p u) - closings (take p u)

module _ (g : ℕ) (u : List Paren) (high : length u ≤ g) where
  few : (p : ℕ) → p ≤ length u → closings (take p u) ≤ g
  few p h = omega (arith, counts-length (take p u), length-take-le p u h)

  -- one parenthesis more
  level-more : (p : ℕ) (q : Paren) → p < length u → get_or u p opening ≡ q
      → level g u (p + 1) ≡ g + openings (take p u) + openings (q ∷ []) - (closings (take p u) + closings (q ∷ []))
  level-more p q h e =
      let f : take (p + 1) u ≡ take p u ++ (q ∷ []) = rw (add-one p, take-suc u p opening h, e) in
      rw f (omega (arith, openings-append (take p u) (q ∷ []), closings-append (take p u) (q ∷ [])))

  up : (st : Scan) (p : ℕ) → p < length u → st.excess ≡ level g u p → get_or u p opening ≡ opening → step_of st p opening ≡ seen st p (excess g u p)
  unfolding step_of excess openings closings
  up st p h e f =
      let c = few p (omega arith) in
      let x : suc st.excess ≡ level g u (p + 1) = omega (arith, level-more p opening h f) in
      ap (seen st p) x

  down : (st : Scan) (p : ℕ) → p < length u → st.excess ≡ level g u p → get_or u p opening ≡ closing → step_of st p closing ≡ seen st p (excess g u p)
  unfolding step_of excess openings closings
  down st p h e f =
      let c = few (p + 1) (omega arith) in
      let x : pred st.excess ≡ level g u (p + 1) = omega (arith, level-more p closing h f) in
      ap (seen st p) x

  step_seen : (st : Scan) (p : ℕ) → p < length u → st.excess ≡ level g u p → step_of st p (get_or u p opening) ≡ seen st p (excess g u p)
  step_seen st p h e = by (get_or u p opening) refl
    where
      by : (q : Paren) → get_or u p opening ≡ q → step_of st p q ≡ seen st p (excess g u p)
      by opening f = up st p h e f
      by closing f = down st p h e f

  -- what a scan from place p on has found after k parentheses
  pub record Scanned (st : Scan) (p k : ℕ) (st' : Scan) : Type 0 where
    pub level-now : st'.excess ≡ level g u (p + k)
    pub beats : Beats (excess g u) p (p + k) st.smallest st.place st'

  pub scanned : (st : Scan) (p k : ℕ) → p + k ≤ length u → st.excess ≡ level g u p → Scanned st p k (scan_of st p (take k (drop p u)))
  unfolding scan_of excess
  scanned st p zero h e =
      record { level-now = rw (add-zero p) e; beats = rw (add-zero p) (beats_none (excess g u) p st.smallest st.place st refl refl) }
  scanned st p (suc k) h e =
      let w = scanned st p k (omega arith) e in
      let s = take k (drop p u) in
      let q = get_or u (p + k) opening in
      let d : k < length (drop p u) = omega (arith, length-drop p u) in
      let f : take (suc k) (drop p u) ≡ s ++ (q ∷ []) = take-suc (drop p u) k opening d ∙ ap (λ (r : Paren). s ++ (r ∷ [])) (get_or-drop p u k opening) in
      let l : length s ≡ k = length-take-le k (drop p u) (omega arith) in
      let x : scan_of st p (take (suc k) (drop p u)) ≡ seen (scan_of st p s) (p + k) (excess g u (p + k)) =
      ap (scan_of st p) f ∙ scan-append st p s (q ∷ []) ∙ rw l (step_seen (scan_of st p s) (p + k) (omega arith) w.level-now) in
      subst⁻¹ (Scanned st p (suc k)) x
      (record { level-now = rw (add-suc p k, ← (add-one (p + k))); beats = rw (add-suc p k) (beats_seen (excess g u) p (p + k) st.smallest st.place (scan_of st p s) (omega arith) w.beats) })
