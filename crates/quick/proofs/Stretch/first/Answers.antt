-- `quick::Stretch::first` meets its contract: the place that was found, and the excess after it.
-- Assumes nothing.
use native.Mathlib.Omega.{arith}
use Rattle.quick.specs.Stretch.{body, numbers}
use Rattle.quick.proofs.Ours.{closing-height}
use Rattle.quick.proofs.Stretch.first.Goals as goal

pub returns : goal.returns
returns c =
    let s = c.args.self.now in
    let stands = c.in_ok-place.ensures in
    record {
      there = stands.there;
      nine = tt;
      right = λ n asks.
          let o = s.order in
          let m = asks.among in
          let is = stands.right n asks.ours (omega arith) asks.first in
          (is, rw is (omega (arith, closing-height (body s.lent) (numbers s.lent) n asks.ours s.i (omega arith), is)));
    }
