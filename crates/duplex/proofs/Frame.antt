-- A duplex block is FIPS 202's padding: the bits of the piece and the frame bit, padded by pad10*1 to a block.
use mathlib.Core.Path.{◌≡◌}
use mathlib.Core.List.{List, [], ◌∷◌, ◌++◌}
use Prim.Native.Nat.{ℕ, ◌+◌, ◌*◌, ◌<◌}
use lib.ListN.{length}
use Rattle.sponge.specs.Pad.{bits, padded_bits}
use Rattle.sponge.proofs.PadBits.{padded_bits_lem, suffix_frame}
use Rattle.duplex.specs.Duplex.{framed}

pub framed_bits : (R b : ℕ) (p : List ℕ) → b < 2 → length p < R → bits (framed R b p) ≡ padded_bits (8 * R) (bits p ++ (b ∷ []))
unfolding framed
framed_bits R b p h l = padded_bits_lem (b ∷ []) (2 + b) (suffix_frame b h) R p l
