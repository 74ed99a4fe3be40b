-- Bytes as one number, low byte first: its bits are theirs.
-- Assumes nothing.
use mathlib.Core.Path.{◌≡◌, refl, ap}
use Prim.Native.Nat.{ℕ, suc, ◌+◌, ◌*◌, ◌<◌}
use native.Mathlib.Omega.{arith}
use mathlib.Core.List.{List, [], ◌∷◌, append-nil}
use lib.ListN.{length, take, drop, get_or, drop_of_length-le}
use lib.Dec.{lit<}
use lib.Seq.{drop-cons}
use Rattle.std.specs.Int.{w64, from_le_bytes}
use Rattle.rules.specs.Bytes.{low_bits, all_bits}
use Rattle.words.proofs.Low.{low_bits-join}

-- one byte
pub one_byte : (bs : List ℕ) (at : ℕ) → at < length bs → all_bits (take 1 (drop at bs)) ≡ low_bits 8 (get_or bs at 0)
unfolding all_bits
one_byte bs at h = rw (drop-cons bs at 0 h) (append-nil (low_bits 8 (get_or bs at 0)))

-- the number of these bytes
worth : List ℕ → ℕ
worth [] = 0
worth (b ∷ bs) = b + 256 * worth bs

worth-bits : (bs : List ℕ) → ((k : ℕ) → k < length bs → get_or bs k 0 < 256) → low_bits (8 * length bs) (worth bs) ≡ all_bits bs
unfolding worth all_bits
worth-bits [] small = unfold low_bits in refl
worth-bits (b ∷ bs) small =
    let e : 8 * suc (length bs) ≡ 8 + 8 * length bs = omega arith in
    rw (e, low_bits-join 8 (8 * length bs) b (worth bs) (small 0 (omega arith)), worth-bits bs (λ k h. small (suc k) (omega arith)))

module _ (bs : List ℕ) (long : length bs ≡ 8) where
  next : (i : ℕ) → i < 8 → worth (drop i bs) ≡ get_or bs i 0 + 256 * worth (drop (suc i) bs)
  unfolding worth
  next i h = ap worth (drop-cons bs i 0 (omega arith))

  end : worth (drop 8 bs) ≡ 0
  unfolding worth
  end = ap worth (drop_of_length-le bs {i = 8} (omega arith))

  is_worth : from_le_bytes w64 bs ≡ worth bs
  is_worth =
      omega (arith, next 0 (lit< tt), next 1 (lit< tt), next 2 (lit< tt), next 3 (lit< tt), next 4 (lit< tt), next 5 (lit< tt), next 6 (lit< tt), next 7 (lit< tt), end)

  pub loaded : ((k : ℕ) → k < 8 → get_or bs k 0 < 256) → low_bits 64 (from_le_bytes w64 bs) ≡ all_bits bs
  loaded small =
      let e = worth-bits bs (λ k h. small k (omega arith)) in
      rw is_worth (rw long at e)
