-- The sponge over any permutation f of 25 lanes of w bits (FIPS 202, section 4).
use Rattle.std.specs.Prelude.{ℕ, zero, suc, take, replicate}
use mathlib.Core.List.{List, [], ◌++◌, foldl}
use Rattle.sponge.specs.Bytes.{mixed, bytes}
use Rattle.sponge.specs.Pieces.{before}

unfoldable pub zeros : List ℕ
zeros = replicate 25 0

-- ---- absorbing: blocks go in as they are, and nothing is padded

unfoldable pub absorb_block : ℕ → (List ℕ → List ℕ) → List ℕ → List ℕ → List ℕ
absorb_block w f a b = f (mixed w a b)

unfoldable pub absorb : ℕ → (List ℕ → List ℕ) → List ℕ → List (List ℕ) → List ℕ
absorb w f a B = foldl (absorb_block w f) a B

-- the plain sponge: the state that the blocks leave. Its output there is the first bytes of that state
unfoldable pub sponge : ℕ → (List ℕ → List ℕ) → List (List ℕ) → List ℕ
sponge w f B = absorb w f zeros B

-- ---- squeezing: m bytes of each state, and `next` from one state to the following

unfoldable pub iterate : (List ℕ → List ℕ) → List ℕ → ℕ → List ℕ
iterate next a zero = a
iterate next a (suc k) = next (iterate next a k)

-- the first m bytes of each of k states
unfoldable pub stream : ℕ → (List ℕ → List ℕ) → ℕ → List ℕ → ℕ → List ℕ
stream w next m a zero = []
stream w next m a (suc k) = stream w next m a k ++ take m (bytes w (iterate next a k))

-- n bytes
unfoldable pub squeeze : ℕ → (List ℕ → List ℕ) → ℕ → List ℕ → ℕ → List ℕ
squeeze w next m a n = take n (stream w next m a (suc (before m n)))
