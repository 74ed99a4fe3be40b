-- What is written behind a text, one piece behind the other.
-- Assumes nothing.
use mathlib.Core.Path.{◌≡◌, sym, ap, subst, ◌∙◌}
use Prim.Native.Nat.{ℕ, ◌+◌, ◌≤◌}
use native.Mathlib.Omega.{arith}
use mathlib.Core.List.{List, ◌++◌, append_assoc}
use lib.ListN.{length, take, drop, length-append, take-append-drop}
use lib.Seq.{take_at, drop_at, drop-drop, take-append-add, drop-append-add, length-take-le}
use Rattle.listing.specs.declared.line.Text.{Text}
use Rattle.listing.specs.Text.{text_of, Writes, Anew}

-- what stands behind stays, as far as the later of two texts ends
behind_both : (a b : List ℕ) (u m : ℕ) → drop u a ≡ drop u b → drop (u + m) a ≡ drop (u + m) b
behind_both a b u m e = sym (drop-drop m u a) ∙ ap (drop m) e ∙ drop-drop m u b

pub writes_both : {l l' l'' : Text} {t u : List ℕ} → Writes t l l' → Writes u l' l'' → Writes (t ++ u) l l''
writes_both {l} {l'} {l''} {t} {u} v w =
    record {
      size = simp length-append (omega (arith, v.size, w.size));
      text = w.text ∙ rw (v.text, append_assoc);
      behind = w.behind ∙ rw w.size (behind_both l'.line.now l.line.now l'.used (length u) v.behind);
    }

pub anew_more : {l l' l'' : Text} {t u : List ℕ} → Anew t l l' → Writes u l' l'' → Anew (t ++ u) l l''
anew_more {l} {l'} {l''} {t} {u} v w =
    record {
      size = simp length-append (omega (arith, v.size, w.size));
      text = w.text ∙ rw v.text;
      behind = w.behind ∙ rw w.size (behind_both l'.line.now l.line.now l'.used (length u) v.behind);
    }

pub anew_same : {l l' : Text} {t u : List ℕ} → Anew t l l' → t ≡ u → Anew u l l'
anew_same {l} {l'} v e = subst (λ t. Anew t l l') e v

-- m bytes of a line from place u on, written by a call: x is what stands there then
module _ (b x t : List ℕ) (u m : ℕ) (h : u ≤ length b) (e : x ≡ t) (l : length t ≡ m) where
  size : length (take u b) + m ≡ u + m
  size = omega (arith, length-take-le u b h)

  pub part_text : (r : List ℕ) → take (u + m) (take u b ++ (x ++ r)) ≡ take u b ++ t
  part_text r = rw e (ap (λ k. take k (take u b ++ (t ++ r))) (sym size) ∙ take-append-add (take u b) (t ++ r) m ∙ ap (λ y. take u b ++ y) (take_at t r m l))

  pub part_behind : (k : ℕ) → k ≡ m → drop (u + m) (take u b ++ (x ++ drop k (drop u b))) ≡ drop (u + m) b
  part_behind k i =
      rw (e, i)
      (ap (λ k. drop k (take u b ++ (t ++ drop m (drop u b)))) (sym size) ∙ drop-append-add (take u b) (t ++ drop m (drop u b)) m
      ∙ drop_at t (drop m (drop u b)) m l ∙ drop-drop m u b)

-- the whole line under a new text
pub anew_out : {l l' : Text} {t : List ℕ} → Anew t l l' → l'.line.now ≡ t ++ drop (length t) l.line.now
anew_out {l} {l'} {t} v = sym (take-append-drop l'.used l'.line.now) ∙ rw (v.text, v.behind, v.size)
