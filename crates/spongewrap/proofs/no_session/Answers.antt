-- The fields are the definition's.
use mathlib.Core.Path.{refl}
use Rattle.sponge.specs.Sponge.{zeros}
use Rattle.spongewrap.proofs.no_session.Goals as goal

pub returns : goal.returns
unfolding zeros
returns c = refl
