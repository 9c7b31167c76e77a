-- The permutation of the mixed state.
use Rattle.sponge.specs.Sponge.{absorb_block}
use Rattle.sponge.proofs.absorbed_block.Goals as goal

pub returns : goal.returns
unfolding absorb_block
returns c = cc
