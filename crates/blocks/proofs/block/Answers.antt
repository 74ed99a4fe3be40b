-- `blocks::block` meets its contract: one of three blocks, or a search from the block of closing 256q to that of closing 256(q + 1), or
-- to the last one. Assumes nothing.
use mathlib.Core.Path.{refl, ap, sym}
use native.Mathlib.Omega.{arith}
use Rattle.std.specs.Prelude.{Some}
use Rattle.blocks.proofs.Standing.{not-strange, stands-near, stands_in}
use Rattle.blocks.proofs.block.Goals as goal

pub returns-then-blocks-first : goal.returns-then-blocks-first
returns-then-blocks-first c =
    record {
      strange = λ h. refl;
      within = λ h. absurd (omega arith);
      right = λ s n own l e. absurd (omega (arith, not-strange own c.args.i l _ c.block_of-first.ensures.0));
    }

pub returns-then-not-passed : goal.returns-then-not-passed
returns-then-not-passed c =
    record {
      strange = λ h. absurd (omega arith);
      within = λ h. omega arith;
      right = λ s n own l e.
          ap Some (sym (stands-near own c.args.i l _ c.block_of-first.ensures.0 _ _ _ _ c.passed.ensures c.passed-2.ensures (omega arith) (omega arith) c.passed-then-b-blocks.ensures c.if-not-passed.true));
    }

pub returns : goal.returns
returns c =
    record {
      strange = λ h. absurd (omega arith);
      within = λ h. omega (arith, c.last.ensures.within, c.search.ensures.high);
      right = λ s n own l e.
          ap Some (sym (stands_in own c.args.i l _ c.block_of-first.ensures.0 _ _ (rw e at c.last.ensures) c.search.ensures));
    }
