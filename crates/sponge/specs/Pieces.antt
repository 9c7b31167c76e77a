-- A string cut into pieces of m bytes and a last one that may be shorter (document 01, "Blocks").
use Rattle.std.specs.Prelude.{ℕ, zero, suc, ◌-◌, ◌*◌, ◌/◌, List, [], ◌∷◌, ◌++◌, take, drop}

-- piece k of s
unfoldable pub piece : ℕ → List ℕ → ℕ → List ℕ
piece m s k = take m (drop (k * m) s)

-- the first k pieces of s, each put into a block by g
unfoldable pub blocks_of : ℕ → (List ℕ → List ℕ) → List ℕ → ℕ → List (List ℕ)
blocks_of m g s zero = []
blocks_of m g s (suc k) = blocks_of m g s k ++ (g (piece m s k) ∷ [])

-- how many pieces come before the last one where n bytes are cut: the last is empty only if n is 0
unfoldable pub before : ℕ → ℕ → ℕ
before m n = (n - 1) / m
