-- The rows of an open, with what is found of its rate.
use Rattle.refusal.specs.Rows.{pick}
use Rattle.spongewrap.specs.Refusals.{open_refusal}
use Rattle.spongewrap.proofs.orders.of_open.Goals as goal

pub returns : goal.returns
unfolding open_refusal pick
returns c = cc
