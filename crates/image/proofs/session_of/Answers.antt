-- The five fields are read from their places; the state is mixed into zero lanes.
use native.Mathlib.Nat.{zero-lt-suc}
use Rattle.sponge.proofs.Lanes.{lanes_read}
use Rattle.image.specs.Image.{session_of}
use Rattle.image.proofs.session_of.Goals as goal

pub returns : goal.returns
unfolding session_of
returns c = cc (lanes_read 64 (zero-lt-suc 7) c.args.image.now)
