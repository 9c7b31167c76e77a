-- Sealing is a loop over the body's pieces: each is absorbed, and written masked by the state before it.
use mathlib.Core.Path.{◌≡◌, refl, ap, ◌∙◌}
use mathlib.Core.List.{List}
use Prim.Native.Nat.{ℕ, zero, suc, ◌-◌, ◌≤◌, ◌<◌}
use native.Mathlib.Omega.{arith}
use lib.ListN.{length}
use Rattle.sponge.specs.Bytes.{bytes}
use Rattle.sponge.specs.Pieces.{piece, before}
use Rattle.sponge.proofs.Turns.{reached, wrote, written, length-written, piece_written, reached_blocks}
use Rattle.duplex.specs.Duplex.{framed, duplexing}
use Rattle.duplex.specs.Strings.{blocks, front, xored, masked, sealed}
use Rattle.duplex.proofs.Strings.{length-xored, taken}

-- what a turn writes of state and piece
abbrev pub mask : ℕ → List ℕ → List ℕ → List ℕ
mask w st p = xored p (bytes w st)

pub mask-length : (w m : ℕ) (st p : List ℕ) → length p ≤ m → length (mask w st p) ≡ length p
mask-length w m st p h = length-xored p (bytes w st)

module _ (w : ℕ) (f : List ℕ → List ℕ) (R : ℕ) (a b : List ℕ) where
  masked_is : (k : ℕ) → masked w f R a b k ≡ wrote (R - 1) (taken w f R 1) (mask w) b a k
  unfolding masked wrote front duplexing
  masked_is zero = refl
  masked_is (suc k) = rw (masked_is k, reached_blocks w f (R - 1) (framed R 1) b a k)

  pub sealed_written : sealed w f R a b ≡ written (R - 1) (taken w f R 1) (mask w) b a
  unfolding sealed written blocks
  sealed_written = masked_is (suc (before (R - 1) (length b)))

  pub length-sealed : 1 < R → length (sealed w f R a b) ≡ length b
  length-sealed h =
      ap length sealed_written ∙ length-written (R - 1) (taken w f R 1) (mask w) b a (mask-length w (R - 1)) (omega arith)

  -- a piece of the ciphertext
  pub sealing_piece : (k : ℕ) → k ≤ before (R - 1) (length b)
      → piece (R - 1) (sealed w f R a b) k ≡ mask w (reached (R - 1) (taken w f R 1) b a k) (piece (R - 1) b k)
  sealing_piece k h = rw sealed_written (piece_written (R - 1) (taken w f R 1) (mask w) b a (mask-length w (R - 1)) k h)
