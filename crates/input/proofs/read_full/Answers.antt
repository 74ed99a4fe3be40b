-- `input::read_full`: what one more read has put into the space stands behind what was there. Assumes nothing.
use Rattle.std.proofs.Common.{◌≡◌, ℕ, ◌+◌, ◌≤◌, List, ◌++◌, length, take, rules, subst, sym, length-take-le}
use Rattle.std.proofs.Math.Seq.{take-append-add}
use Rattle.std.proofs.lemmas.List.{take-append-le}
use borrow.Rule.Slice.PartMut.{put_mid}
use Rattle.std.specs.Io.KnownBytes.{Consumes}
use Rattle.std.proofs.KnownBytes.{Consumes-trans}
use Rattle.input.proofs.read_full.Goals as goal

more_read : (n r k : ℕ) (xs ys : List ℕ) → n ≤ length xs → k ≤ length ys → take (n + k) (put_mid n r xs ys) ≡ take n xs ++ take k ys
more_read n r k xs ys within fits = search (rules, length-take-le, take-append-add, take-append-le)

pub loop-n-preserved : goal.loop-n-preserved
loop-n-preserved g c =
    let held = c.loop-n.invariant in
    let got = c.in_ok-k.ensures in
    let joined = more_read c.loop-n.n _ c.in_ok-k.k c.loop-n.space c.read.new.buf held.fits got.bound.0 in
    record {
      fits = search rules;
      same = search rules;
      read = subst (Consumes _ _) (sym joined) (Consumes-trans _ _ _ _ _ held.read got.bytes.0);
    }
