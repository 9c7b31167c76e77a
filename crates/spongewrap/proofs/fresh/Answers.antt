-- The key's pieces leave the definition's state.
use Rattle.sponge.specs.Sponge.{zeros}
use Rattle.spongewrap.specs.SpongeWrap.{keyed}
use Rattle.spongewrap.proofs.fresh.Goals as goal

pub returns : goal.returns
unfolding keyed zeros
returns c = cc
