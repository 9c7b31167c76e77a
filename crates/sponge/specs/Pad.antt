-- The padding in bits, in FIPS 202's own words (sections 5.1, 6 and B.1): what `padded` and `messageBlocks` are held to.
use Rattle.std.specs.Prelude.{ℕ, ◌+◌, ◌-◌, ◌/◌, ◌%◌, ◌^◌, ◌<◌, ◌≤◌, ◌≡◌, List, [], ◌∷◌, ◌++◌, length, replicate}
use Rattle.keccak.specs.Lanes.{from}

-- the eight bits of a byte, the lowest first
abbrev pub byte_bits : ℕ → List ℕ
byte_bits b = from (λ i. b / 2 ^ i % 2) 0 8

unfoldable pub bits : List ℕ → List ℕ
bits [] = []
bits (b ∷ p) = byte_bits b ++ bits p

-- pad10*1: a 1, j zeros and a 1, where j is - m - 2 modulo x
unfoldable pub pad : ℕ → ℕ → List ℕ
pad x m = 1 ∷ replicate ((x - (m + 2) % x) % x) 0 ++ (1 ∷ [])

-- the string of bits N padded to blocks of x bits: N || pad10*1 (x, len N)
abbrev pub padded_bits : ℕ → List ℕ → List ℕ
padded_bits x N = N ++ pad x (length N)

-- the byte s is the suffix bits u, the padding's first 1, and zeros; bit 7 is left for the padding's last 1
pub record Suffix (u : List ℕ) (s : ℕ) : Type 0 where
  pub short : length u ≤ 6
  pub small : s < 128
  pub bits_are : byte_bits s ≡ u ++ 1 ∷ replicate (7 - length u) 0
