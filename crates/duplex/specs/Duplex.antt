-- The duplex construction over any permutation f of 25 lanes of w bits, at a rate of R bytes
-- (document 01, "Blocks" and "SpongeWrap"; the duplex construction of "Duplexing the sponge").
use Rattle.std.specs.Prelude.{ℕ, ◌+◌, ◌-◌, ◌*◌, ◌/◌, ◌%◌, ◌<◌, ◌≤◌, ◌≡◌, List, []}
use Rattle.sponge.specs.Padding.{padded}
use Rattle.sponge.specs.Sponge.{absorb_block, iterate, squeeze}
use Rattle.sponge.specs.Pieces.{before}

-- a piece of at most R - 1 bytes as a block: bit 0 of the byte after it is the frame bit b, and bit 1 the padding's first
unfoldable pub framed : ℕ → ℕ → List ℕ → List ℕ
framed R b p = padded R (2 + b) p

-- one duplexing: the framed piece is absorbed. Its output is the first bytes of the state that it leaves
unfoldable pub duplexing : ℕ → (List ℕ → List ℕ) → ℕ → List ℕ → List ℕ → ℕ → List ℕ
duplexing w f R a p b = absorb_block w f a (framed R b p)

-- a duplexing of the empty piece with frame bit 0: how more output is asked for
unfoldable pub blank : ℕ → (List ℕ → List ℕ) → ℕ → List ℕ → List ℕ
blank w f R a = duplexing w f R a [] 0

-- n bytes of output, R - 1 from each state, and the state that the last of them is read from
unfoldable pub drawn : ℕ → (List ℕ → List ℕ) → ℕ → List ℕ → ℕ → List ℕ
drawn w f R a n = squeeze w (blank w f R) (R - 1) a n

unfoldable pub state_after : ℕ → (List ℕ → List ℕ) → ℕ → List ℕ → ℕ → List ℕ
state_after w f R a n = iterate (blank w f R) a (before (R - 1) n)

-- what the code asks of a rate: room for a byte and its frame, in whole lanes of w bits
pub record Rate (w R : ℕ) : Type 0 where
  pub room : 1 < R
  pub most : R ≤ 25 * (w / 8)
  pub lanes : R % (w / 8) ≡ 0
