-- The message's end with the suffix 0x04, and then the output.
use Rattle.kmac.proofs.squeeze_named.Goals as goal

pub returns : goal.returns
returns g c = cc
