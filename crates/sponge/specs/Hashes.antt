-- SHA3-256, SHAKE128 and SHAKE256 (FIPS 202, sections 6.1 and 6.2), each an instance of one hash over the plain sponge.
use Rattle.std.specs.Prelude.{ℕ, ◌/◌, List, [], ◌∷◌, ◌++◌, length}
use Rattle.keccak.specs.Rounds.{f1600}
use Rattle.sponge.specs.Pieces.{piece, blocks_of}
use Rattle.sponge.specs.Padding.{padded}
use Rattle.sponge.specs.Sponge.{sponge, squeeze}

-- the whole blocks of R bytes, as they are, and what is left, padded with the suffix byte s: an empty rest has a block too
unfoldable pub message_blocks : ℕ → ℕ → List ℕ → List (List ℕ)
message_blocks R s M = blocks_of R (λ p. p) M (length M / R) ++ (padded R s (piece R M (length M / R)) ∷ [])

-- n bytes of the hash of M
unfoldable pub hash : ℕ → (List ℕ → List ℕ) → ℕ → ℕ → List ℕ → ℕ → List ℕ
hash w f R s M n = squeeze w f R (sponge w f (message_blocks R s M)) n

abbrev pub sha3_256 : List ℕ → List ℕ
sha3_256 M = hash 64 f1600 136 0x06 M 32

abbrev pub shake128 : List ℕ → ℕ → List ℕ
shake128 M n = hash 64 f1600 168 0x1F M n

abbrev pub shake256 : List ℕ → ℕ → List ℕ
shake256 M n = hash 64 f1600 136 0x1F M n
