-- All that is absorbed is cSHAKE's string with the name KMAC.
use native.Mathlib.Omega.{arith}
use Rattle.keccak.specs.Rounds.{f1600}
use Rattle.kmac.proofs.Settle.{keyed_is}
use Rattle.kmac.proofs.keyed_into.Goals as goal

pub returns : goal.returns
returns g c =
    keyed_is 64 f1600 _ (omega arith) c.requires.0 _ _ _ _ c.names_padded-head.ensures.0 c.key_padded-keyed.ensures c.absorbed-most.ensures c.right_encoded-whole.ensures c.squeeze_named.ensures
