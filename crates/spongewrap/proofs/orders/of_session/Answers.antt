-- A session's own rows, with what is found of its pairs and calls.
use Rattle.refusal.specs.Rows.{pick}
use Rattle.spongewrap.proofs.orders.of_session.Goals as goal

pub returns : goal.returns
unfolding pick
returns c = cc
