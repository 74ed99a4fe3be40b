-- `input::read_full`: the bytes read so far fit the space, which keeps its length, and are those that the input has lost; what is left of it
-- falls. Assumes nothing.
use Rattle.std.specs.Prelude.{length, take, ◌-◌, ◌≤◌, ◌≡◌}
use Rattle.std.specs.Io.KnownBytes.{Consumes}
use Rattle.input.proofs.read_full.Given as goal

abbrev pub invariant-loop-n : goal.invariant-loop-n
invariant-loop-n g l = record {
  fits : l.n ≤ length l.space;
  same : length l.space ≡ length l.fn.space;
  read : Consumes (g.R.Read.remaining l.fn.input) (g.R.Read.remaining l.input) (take l.n l.space);
}

abbrev pub decreases-loop-n : goal.decreases-loop-n
decreases-loop-n g l = length l.initial.space - l.n
