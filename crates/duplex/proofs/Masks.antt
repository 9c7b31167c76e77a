-- Masks: one that is laid on twice is gone; and the pieces of a ciphertext and of a plaintext, each masked by the output at its point.
use mathlib.Core.Path.{◌≡◌, sym, ap, ◌∙◌}
use mathlib.Core.List.{List}
use Prim.Native.Nat.{ℕ, ◌-◌, ◌<◌}
use native.Mathlib.Nat.{le_of_suc-le-suc, le_refl}
use lib.ListN.{length, get_or}
use lib.Seq.{take-length}
use lib.Bits.{bit_xor}
use Rattle.sponge.specs.Bytes.{bytes}
use Rattle.sponge.specs.Pieces.{piece}
use Rattle.sponge.specs.Sponge.{absorb}
use Rattle.sponge.proofs.Xor.{xor_twice}
use Rattle.sponge.proofs.Table.{table_ext, table_at, table-get_or}
use Rattle.sponge.proofs.Turns.{reached, reached_blocks}
use Rattle.duplex.specs.Duplex.{framed, duplexing}
use Rattle.duplex.specs.Strings.{blocks, front, xored, sealed, opened}
use Rattle.duplex.proofs.Strings.{length-xored, taken}
use Rattle.duplex.proofs.Seal.{sealing_piece}
use Rattle.duplex.proofs.Open.{opening_piece, opening_reached}

pub xored_twice : (p z : List ℕ) → xored (xored p z) z ≡ p
unfolding xored
xored_twice p z =
    rw (length-xored p z)
    (table_ext (length p) _ (λ i. get_or p i 0) (λ i h. ap (λ (x : ℕ). bit_xor x (get_or z i 0)) (table_at (length p) _ i h) ∙ xor_twice (get_or p i 0) (get_or z i 0))
    ∙ table-get_or p (length p) (le_refl (length p)) ∙ take-length p)

-- ---- pieces and the output that masks them

module _ (w : ℕ) (f : List ℕ → List ℕ) (R : ℕ) (a : List ℕ) where
  reached_front : (s : List ℕ) (k : ℕ) → reached (R - 1) (taken w f R 1) s a k ≡ absorb w f a (front R 1 s k)
  unfolding front duplexing
  reached_front s k = reached_blocks w f (R - 1) (framed R 1) s a k

  -- a piece of a ciphertext
  pub sealed_piece : (b : List ℕ) (k : ℕ) → k < blocks R (length b)
      → piece (R - 1) (sealed w f R a b) k ≡ xored (piece (R - 1) b k) (bytes w (absorb w f a (front R 1 b k)))
  unfolding blocks
  sealed_piece b k h = rw (← reached_front b k) (sealing_piece w f R a b k (le_of_suc-le-suc h))

  -- a piece of a ciphertext and the plaintext that it opens to
  pub opened_piece : (c : List ℕ) (k : ℕ) → k < blocks R (length c)
      → piece (R - 1) c k ≡ xored (piece (R - 1) (opened w f R a c) k) (bytes w (absorb w f a (front R 1 (opened w f R a c) k)))
  unfolding blocks
  opened_piece c k h =
      let l = le_of_suc-le-suc h in
      rw (← reached_front (opened w f R a c) k, ← opening_reached w f R a c k l, opening_piece w f R a c k l) (sym (xored_twice (piece (R - 1) c k) _))
