-- Strings through the duplex: cut into pieces of R - 1 bytes, absorbed, sealed and opened (document 01, "Blocks" and "SpongeWrap").
use Rattle.std.specs.Prelude.{ℕ, zero, suc, ◌-◌, List, [], ◌∷◌, ◌++◌, length, get_or}
use Rattle.std.specs.Int.Bits.{bit_xor}
use Rattle.sponge.specs.Table.{table}
use Rattle.sponge.specs.Bytes.{bytes}
use Rattle.sponge.specs.Pieces.{piece, blocks_of, before}
use Rattle.sponge.specs.Sponge.{absorb}
use Rattle.duplex.specs.Duplex.{framed}

-- how many blocks a string of n bytes takes: an empty one takes one
unfoldable pub blocks : ℕ → ℕ → ℕ
blocks R n = suc (before (R - 1) n)

-- the first k pieces of s, framed by b
unfoldable pub front : ℕ → ℕ → List ℕ → ℕ → List (List ℕ)
front R b s k = blocks_of (R - 1) (framed R b) s k

-- all of s: the frame bit is `mid` but at the last piece, where it is `last`
unfoldable pub cut : ℕ → ℕ → ℕ → List ℕ → List (List ℕ)
cut R mid last s =
    front R mid s (before (R - 1) (length s)) ++ (framed R last (piece (R - 1) s (before (R - 1) (length s))) ∷ [])

-- p xored with the first bytes of z
unfoldable pub xored : List ℕ → List ℕ → List ℕ
xored p z = table (length p) (λ i. bit_xor (get_or p i 0) (get_or z i 0))

module _ (w : ℕ) (f : List ℕ → List ℕ) (R : ℕ) (a : List ℕ) where
  -- the state that absorbing s leaves
  unfoldable pub absorbed : ℕ → ℕ → List ℕ → List ℕ
  absorbed mid last s = absorb w f a (cut R mid last s)

  -- the ciphertext of the first k pieces of b: each is masked by the output that the piece before it left, the first by a's
  unfoldable pub masked : List ℕ → ℕ → List ℕ
  masked b zero = []
  masked b (suc k) = masked b k ++ xored (piece (R - 1) b k) (bytes w (absorb w f a (front R 1 b k)))

  unfoldable pub sealed : List ℕ → List ℕ
  sealed b = masked b (blocks R (length b))

  -- the plaintext of the first k pieces of c: the masks come from the plaintext before, never from the ciphertext
  unfoldable pub unmasked : List ℕ → ℕ → List ℕ
  unmasked c zero = []
  unmasked c (suc k) =
      unmasked c k ++ xored (piece (R - 1) c k) (bytes w (absorb w f a (front R 1 (unmasked c k) k)))

  unfoldable pub opened : List ℕ → List ℕ
  opened c = unmasked c (blocks R (length c))
