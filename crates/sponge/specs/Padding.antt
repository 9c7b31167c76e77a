-- Padding of the last piece to a block of R bytes: the suffix bits and pad10*1 (FIPS 202, sections 5.1 and B.2).
use Rattle.std.specs.Prelude.{ℕ, zero, suc, ◌+◌, ◌-◌, List, [], ◌∷◌, ◌++◌, length, replicate}

-- what follows a piece that leaves m + 1 bytes of its block: the byte s, which has the suffix and the padding's first bit,
-- zeros, and bit 7 of the last byte; where one byte is left, s and that bit meet in it
unfoldable pub tail : ℕ → ℕ → List ℕ
tail s zero = (s + 128) ∷ []
tail s (suc m) = s ∷ replicate m 0 ++ (128 ∷ [])

-- the piece p, shorter than R, as a block
unfoldable pub padded : ℕ → ℕ → List ℕ → List ℕ
padded R s p = p ++ tail s (R - 1 - length p)
