-- The two blocks that a summary names: where they can't be, the summary is not the record's own, and where they can, the closings stand there.
-- Assumes nothing.
use mathlib.Core.Path.{◌≡◌, refl}
use mathlib.Core.Logic.{⊎_elim}
use Prim.Native.Nat.{ℕ, ◌/◌, ◌≤◌, ◌<◌}
use native.Mathlib.Omega.{arith}
use Rattle.std.specs.Prelude.{Some, None}
use Rattle.rules.specs.Refusal.{Outcome, refusal}
use Rattle.rules.specs.Summary.{blocks_for}
use Rattle.blocks.specs.Search.{StandsIn}
use Rattle.quick.specs.declared.Lent.{Lent}
use Rattle.quick.specs.declared.Stretch.{Stretch}
use Rattle.quick.specs.Quick.{parens_in, Ours, closing_in}
use Rattle.quick.specs.Stretch.{body, numbers, Asks, Spans, Found}
use Rattle.quick.proofs.Ours.{closings-order}

-- the block that the record's own summary names
named-block : (lent : Lent) (m k a : ℕ) → StandsIn (numbers lent) (blocks_for m) k (Some a) → Ours (body lent) (numbers lent) m → k < m → closing_in (body lent) m k / 256 ≡ a
named-block lent m k a names ours h =
    let e : Some a ≡ Some (closing_in (body lent) m k / 256) = names.right (parens_in (body lent) m) m ours.own h refl in
    cc

module _ (lent : Lent) (m i j : ℕ) (order : i ≤ j) (among : j < m) where
  nine : (Ours (body lent) (numbers lent) m → ⊥) → Found lent m i j (refusal 9)
  nine h = record { allowed = refl; named = λ s. refl; right = λ ours. absurd (h ours) }

  -- the summary names no block of the record
  pub missing : (k : ℕ) → k ≤ j → StandsIn (numbers lent) (blocks_for m) k None → Found lent m i j (refusal 9)
  missing k h names =
      nine (λ ours. let e : None ≡ Some (closing_in (body lent) m k / 256) = names.right (parens_in (body lent) m) m ours.own (omega arith) refl in cc)

  -- or the two are crossed
  pub crossed : (a b : ℕ) → StandsIn (numbers lent) (blocks_for m) i (Some a) → StandsIn (numbers lent) (blocks_for m) j (Some b) → b < a → Found lent m i j (refusal 9)
  crossed a b first last h =
      nine (λ ours. omega (arith, named-block lent m i a first ours (omega arith), named-block lent m j b last ours among, closings-order (body lent) (numbers lent) m ours i j order among))

-- or both are the record's
pub spanned : (s : Stretch) (m : ℕ) (o : Outcome) → s.j < m → StandsIn (numbers s.lent) (blocks_for m) s.i (Some s.a) → StandsIn (numbers s.lent) (blocks_for m) s.j (Some s.b)
    → Spans s o → Found s.lent m s.i s.j o
spanned s m o among first last spans =
    record {
      allowed = spans.allowed;
      named = ⊎_elim (λ h. let e : Some s.a ≡ None = first.strange h in cc) (λ h. let e : Some s.b ≡ None = last.strange h in cc);
      right = λ ours. spans.right m (asks ours);
    }
  where
    asks : Ours (body s.lent) (numbers s.lent) m → Asks s m
    asks ours =
        let o = s.order in
        record {
          ours = ours;
          among = among;
          first = named-block s.lent m s.i s.a first ours (omega arith);
          last = named-block s.lent m s.j s.b last ours among;
        }
