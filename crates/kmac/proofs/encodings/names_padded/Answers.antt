-- The width, the two strings, and zeros to the block's edge, from nothing on.
use borrow.Author.Rules.{rules}
use mathlib.Core.Path.{refl}
use Rattle.keccak.specs.Rounds.{f1600}
use Rattle.absorber.proofs.Parts.{parts}
use Rattle.kmac.proofs.Encoding.{bytepad_is}
use Rattle.kmac.proofs.encodings.names_padded.Goals as goal

pub returns : goal.returns
returns g c =
    let l = rw c.fresh.ensures at c.left_encoded-begun.ensures in
    (bytepad_is 64 f1600 _ _ refl (search rules) (parts 64 f1600 _ l (parts 64 f1600 _ c.string_encoded-named.ensures c.string_encoded-both.ensures)) c.filled.ensures.0, c.filled.ensures.1)
