-- The first 200 bytes are mixed into zero lanes.
use native.Mathlib.Nat.{zero-lt-suc}
use Rattle.sponge.proofs.Lanes.{lanes_read}
use Rattle.probe.proofs.lanes_of.Goals as goal

pub returns : goal.returns
returns c = cc (lanes_read 64 (zero-lt-suc 7) c.args.b.now)
