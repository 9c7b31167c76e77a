-- The state and then the rate are stored, and fill the 202 bytes.
use mathlib.Core.List.{[], ◌∷◌}
use Rattle.image.proofs.Image.{laid}
use Rattle.probe.specs.States.{object_of}
use Rattle.probe.proofs.object.put_object.Goals as goal

pub returns : goal.returns
unfolding object_of
returns c = laid c.args.duplex.lanes c.args.object.now _ _ ((2, c.args.duplex.rate) ∷ []) c.told-object c.put_bytes.ensures c.put.ensures
