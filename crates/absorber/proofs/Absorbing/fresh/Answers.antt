-- The zero state, at a block's edge.
use mathlib.Core.Path.{refl}
use Rattle.sponge.specs.Sponge.{zeros}
use Rattle.absorber.proofs.Absorbing.fresh.Goals as goal

pub returns : goal.returns
unfolding zeros
returns c = refl
