-- The count, and then the bytes.
use Rattle.keccak.specs.Rounds.{f1600}
use Rattle.absorber.proofs.Parts.{parts}
use Rattle.kmac.specs.Encodings.{left_encode}
use Rattle.kmac.proofs.encodings.left_encoded.Goals as goal

pub returns : goal.returns
unfolding left_encode
returns g c = rw c.byte_count-n.ensures.0 at (parts 64 f1600 _ c.absorbed_count-counted.ensures c.absorbed_number.ensures)
