-- `checks::frame` meets its contract: at each return the tests that led there say which row of the order holds.
-- Assumes nothing.
use borrow.Author.Tests.{lt-ltb, le-ltb, eq-eqb, ne_eqb}
use Rattle.rules.specs.Order.{frame_says}
use Rattle.checks.proofs.frame.Goals as goal

pub returns-then-bytes-lt4 : goal.returns-then-bytes-lt4
unfolding frame_says
returns-then-bytes-lt4 c = simp (lt-ltb _ _ c.if-bytes-lt4.true)

pub returns-then-bytes-ne82 : goal.returns-then-bytes-ne82
unfolding frame_says
returns-then-bytes-ne82 c = simp (le-ltb _ _ c.if-bytes-lt4.false, ne_eqb _ _ c.if-bytes-ne82.true)

pub returns-then-bytes-ne77 : goal.returns-then-bytes-ne77
unfolding frame_says
returns-then-bytes-ne77 c = simp (le-ltb _ _ c.if-bytes-lt4.false, eq-eqb _ _ c.if-bytes-ne82.false, ne_eqb _ _ c.if-bytes-ne77.true)

pub returns-then-n-gt32768 : goal.returns-then-n-gt32768
unfolding frame_says
returns-then-n-gt32768 c = simp (← c.head-n.ensures, le-ltb _ _ c.if-bytes-lt4.false, eq-eqb _ _ c.if-bytes-ne82.false, eq-eqb _ _ c.if-bytes-ne77.false, lt-ltb _ _ c.if-n-gt32768.true)

pub returns-then-bytes-n : goal.returns-then-bytes-n
unfolding frame_says
returns-then-bytes-n c = simp (← c.head-n.ensures, le-ltb _ _ c.if-bytes-lt4.false, eq-eqb _ _ c.if-bytes-ne82.false, eq-eqb _ _ c.if-bytes-ne77.false, le-ltb _ _ c.if-n-gt32768.false, lt-ltb _ _ c.if-bytes-n.true)

pub returns : goal.returns
unfolding frame_says
returns c = simp (← c.head-n.ensures, le-ltb _ _ c.if-bytes-lt4.false, eq-eqb _ _ c.if-bytes-ne82.false, eq-eqb _ _ c.if-bytes-ne77.false, le-ltb _ _ c.if-n-gt32768.false, le-ltb _ _ c.if-bytes-n.false)
