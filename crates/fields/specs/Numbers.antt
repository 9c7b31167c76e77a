-- Numbers of k bytes, the highest byte first (document 01: "Lengths are big-endian").
use Rattle.std.specs.Prelude.{ℕ, zero, suc, ◌+◌, ◌*◌, ◌/◌, ◌%◌, List, [], ◌∷◌, ◌++◌, get_or}

-- the number that the k bytes of b from `at` on are
unfoldable pub number_at : ℕ → List ℕ → ℕ → ℕ
number_at zero b at = 0
number_at (suc k) b at = number_at k b at * 256 + get_or b (at + k) 0

-- n in k bytes
unfoldable pub bytes_of : ℕ → ℕ → List ℕ
bytes_of zero n = []
bytes_of (suc k) n = bytes_of k (n / 256) ++ (n % 256 ∷ [])
