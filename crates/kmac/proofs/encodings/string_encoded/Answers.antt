-- The length in bits, and then the string.
use Rattle.keccak.specs.Rounds.{f1600}
use Rattle.absorber.proofs.Parts.{parts}
use Rattle.kmac.specs.Encodings.{encode_string}
use Rattle.kmac.proofs.encodings.string_encoded.Goals as goal

pub returns : goal.returns
unfolding encode_string
returns g c = parts 64 f1600 _ c.left_encoded-begun.ensures c.absorbed.ensures
