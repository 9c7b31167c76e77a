-- The five steps in their order.
use Rattle.keccak.specs.Rounds.{round}
use Rattle.keccak.proofs.one_round.Goals as goal

pub returns : goal.returns
unfolding round
returns c = cc
