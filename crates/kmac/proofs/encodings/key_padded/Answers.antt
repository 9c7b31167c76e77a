-- The width, the key, and zeros to the block's edge.
use borrow.Author.Rules.{rules}
use Rattle.keccak.specs.Rounds.{f1600}
use Rattle.absorber.proofs.Parts.{parts}
use Rattle.kmac.proofs.Encoding.{bytepad_is}
use Rattle.kmac.proofs.encodings.key_padded.Goals as goal

pub returns : goal.returns
returns g c =
    bytepad_is 64 f1600 _ _ (search rules) (search rules) (parts 64 f1600 _ c.left_encoded-begun.ensures c.string_encoded-keyed.ensures) c.filled.ensures.0
