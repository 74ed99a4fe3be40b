-- `listing::start` meets its contract.
-- Assumes nothing.
use borrow.Author.Tests.{lt-ltb, le-ltb}
use Rattle.rules.specs.Listing.{listing_lines}
use Rattle.listing.specs.Left.{all_of}
use Rattle.listing.proofs.start.Goals as goal

pub returns-then-drawer-gt65536 : goal.returns-then-drawer-gt65536
unfolding listing_lines all_of
returns-then-drawer-gt65536 c = let long = lt-ltb _ _ c.if-drawer-gt65536.true in record { lines = rw long; value = rw long }

pub returns : goal.returns
unfolding listing_lines all_of
returns c = let short = le-ltb _ _ c.if-drawer-gt65536.false in record { lines = rw short; value = rw short }
