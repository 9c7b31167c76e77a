-- The message absorbed from the zero state, then the output squeezed.
use Rattle.sponge.specs.Sponge.{zeros, sponge}
use Rattle.sponge.specs.Hashes.{hash}
use Rattle.sponge.proofs.hash_into.Goals as goal

pub returns : goal.returns
unfolding hash sponge zeros
returns c = cc
