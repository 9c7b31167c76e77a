-- The bytes, and then their count.
use Rattle.keccak.specs.Rounds.{f1600}
use Rattle.absorber.proofs.Parts.{parts}
use Rattle.kmac.specs.Encodings.{right_encode}
use Rattle.kmac.proofs.encodings.right_encoded.Goals as goal

pub returns : goal.returns
unfolding right_encode
returns g c = rw c.byte_count-n.ensures.0 at (parts 64 f1600 _ c.absorbed_number-begun.ensures c.absorbed_count.ensures)
