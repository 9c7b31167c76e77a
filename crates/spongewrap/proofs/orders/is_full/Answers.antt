-- The second test is made only where the first fails.
use borrow.Author.Tests.{le-leb, lt-leb}
use Rattle.spongewrap.proofs.orders.is_full.Goals as goal

pub returns-then-pairs-ge-MOST_PAIRS : goal.returns-then-pairs-ge-MOST_PAIRS
returns-then-pairs-ge-MOST_PAIRS c = rw (le-leb _ _ c.if-pairs-ge-MOST_PAIRS.true)

pub returns-else-pairs-ge-MOST_PAIRS : goal.returns-else-pairs-ge-MOST_PAIRS
returns-else-pairs-ge-MOST_PAIRS c = rw (lt-leb _ _ c.if-pairs-ge-MOST_PAIRS.false)
