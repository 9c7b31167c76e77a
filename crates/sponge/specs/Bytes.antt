-- Bytes and lanes of w bits: byte i of a block goes to lane i / (w / 8), at bits 8 (i mod (w / 8)) upward
-- (FIPS 202, sections 3.1.2 and B.1).
use Rattle.std.specs.Prelude.{ℕ, ◌+◌, ◌*◌, ◌/◌, ◌%◌, ◌^◌, List, get_or}
use Rattle.std.specs.Int.Bits.{bit_xor}
use Rattle.keccak.specs.Lanes.{sum}
use Rattle.sponge.specs.Table.{table}

-- lane j of a block; bytes past the block's end count as 0
unfoldable pub lane_of : ℕ → List ℕ → ℕ → ℕ
lane_of w b j = sum (λ m. get_or b (w / 8 * j + m) 0 * 2 ^ (8 * m)) (w / 8)

-- a block xored into the first bytes of a state
unfoldable pub mixed : ℕ → List ℕ → List ℕ → List ℕ
mixed w a b = table 25 (λ j. bit_xor (get_or a j 0) (lane_of w b j))

-- byte i of a state
unfoldable pub byte_of : ℕ → List ℕ → ℕ → ℕ
byte_of w a i = get_or a (i / (w / 8)) 0 / 2 ^ (8 * (i % (w / 8))) % 256

-- all bytes of a state, in block order
unfoldable pub bytes : ℕ → List ℕ → List ℕ
bytes w a = table (25 * (w / 8)) (byte_of w a)
