-- The second test is made only where the first holds.
use borrow.Author.Tests.{eq-eqb, ne_eqb}
use Rattle.spongewrap.proofs.orders.bad_rate.Goals as goal

pub returns-then-rate-ne168 : goal.returns-then-rate-ne168
returns-then-rate-ne168 c = rw (ne_eqb _ _ c.if-rate-ne168.true)

pub returns-else-rate-ne168 : goal.returns-else-rate-ne168
returns-else-rate-ne168 c = rw (eq-eqb _ _ c.if-rate-ne168.false)
