-- SpongeWrap over any permutation f of 25 lanes of w bits, at a rate of R bytes (document 01, "SpongeWrap"; the mode of that
-- name in "Duplexing the sponge"). Each string goes through the duplex piece by piece; the two numbers are the frame bits of
-- its pieces, of all but the last and of the last: headers have one sense, the key and bodies the other.
use Rattle.std.specs.Prelude.{ℕ, List}
use Rattle.sponge.specs.Sponge.{zeros}
use Rattle.duplex.specs.Duplex.{drawn, state_after}
use Rattle.duplex.specs.Strings.{absorbed, sealed, opened}

module _ (w : ℕ) (f : List ℕ → List ℕ) (R : ℕ) where
  -- initialise: the state that the key leaves
  unfoldable pub keyed : List ℕ → List ℕ
  keyed key = absorbed w f R zeros 1 0 key

  -- the state that a header leaves; its output masks the first piece of the body
  unfoldable pub headed : List ℕ → List ℕ → List ℕ
  headed a header = absorbed w f R a 0 1 header

  -- the state that a header and then a body leave; the tag is its output
  unfoldable pub bodied : List ℕ → List ℕ → List ℕ → List ℕ
  bodied a header body = absorbed w f R (headed a header) 1 0 body

  -- wrap: the ciphertext of a body
  unfoldable pub ciphertext : List ℕ → List ℕ → List ℕ → List ℕ
  ciphertext a header body = sealed w f R (headed a header) body

  -- its tag of n bytes, and the state that a pair with such a tag leaves
  unfoldable pub tagged : List ℕ → List ℕ → List ℕ → ℕ → List ℕ
  tagged a header body n = drawn w f R (bodied a header body) n

  unfoldable pub left : List ℕ → List ℕ → List ℕ → ℕ → List ℕ
  left a header body n = state_after w f R (bodied a header body) n

  -- unwrap: the body of a ciphertext
  unfoldable pub plaintext : List ℕ → List ℕ → List ℕ → List ℕ
  plaintext a header cipher = opened w f R (headed a header) cipher
