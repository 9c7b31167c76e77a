-- Drawing output: how long it is, the blocks of empty pieces that it absorbs, and its pieces.
use mathlib.Core.Path.{◌≡◌, refl, sym, ◌∙◌}
use mathlib.Core.List.{List, [], ◌++◌}
use Prim.Native.Nat.{ℕ, zero, suc, ◌-◌, ◌*◌, ◌/◌, ◌≤◌, ◌<◌}
use native.Mathlib.Nat.{le_of_suc-le-suc}
use native.Mathlib.Numerals.{add-one}
use native.Mathlib.Omega.{arith}
use lib.ListN.{length, take, replicate, length-replicate, replicate-append-replicate}
use lib.Seq.{length-take-le}
use Rattle.sponge.specs.Bytes.{bytes}
use Rattle.sponge.specs.Pieces.{piece, before}
use Rattle.sponge.specs.Sponge.{absorb, iterate}
use Rattle.sponge.proofs.Pieces.{length-piece, absorb-append}
use Rattle.sponge.proofs.Turns.{piece_written}
use Rattle.sponge.proofs.Squeeze.{length-bytes, onward, given, given-length, reached_iterate, squeeze_written, length-squeeze}
use Rattle.duplex.specs.Duplex.{framed, blank, drawn, state_after}
use Rattle.duplex.specs.Strings.{blocks}
use Rattle.duplex.proofs.Strings.{duplexing_blocks}

module _ (w : ℕ) (f : List ℕ → List ℕ) (R : ℕ) (a : List ℕ) where
  pub length-drawn : (n : ℕ) → 1 < R → R - 1 ≤ 25 * (w / 8) → length (drawn w f R a n) ≡ n
  unfolding drawn
  length-drawn n h l = length-squeeze w (blank w f R) (R - 1) a n (omega arith) l

  -- k blank duplexings absorb k blocks of the empty piece
  blanks_absorb : (k : ℕ) → iterate (blank w f R) a k ≡ absorb w f a (replicate k (framed R 0 []))
  unfolding iterate absorb blank
  blanks_absorb zero = refl
  blanks_absorb (suc k) =
      rw (blanks_absorb k, duplexing_blocks, replicate-append-replicate k 1, add-one)

-- after the blocks B
pub after_blocks : (w : ℕ) (f : List ℕ → List ℕ) (R : ℕ) (a : List ℕ) (B : List (List ℕ)) (n : ℕ)
    → state_after w f R (absorb w f a B) n ≡ absorb w f a (B ++ replicate (before (R - 1) n) (framed R 0 []))
unfolding state_after
after_blocks w f R a B n = blanks_absorb w f R (absorb w f a B) (before (R - 1) n) ∙ sym (absorb-append w f a B _)

-- ---- its pieces

-- a piece of as much output as s has bytes
drawn_over : (w : ℕ) (f : List ℕ → List ℕ) (R : ℕ) (a s : List ℕ) (k : ℕ) → R - 1 ≤ 25 * (w / 8) → k < blocks R (length s)
    → piece (R - 1) (drawn w f R a (length s)) k ≡ take (length (piece (R - 1) (drawn w f R a (length s)) k)) (bytes w (absorb w f a (replicate k (framed R 0 []))))
unfolding drawn blocks
drawn_over w f R a s k l h =
    let m : ℕ = R - 1 in
    let Z : List ℕ = bytes w (iterate (blank w f R) a k) in
    let e = piece_written m (onward (blank w f R)) (given w) s a (given-length w m l) k (le_of_suc-le-suc h) in
    rw (← blanks_absorb w f R a k, squeeze_written w (blank w f R) m a s (given-length w m l), e, reached_iterate w (blank w f R) m a s k)
    (rw (length-take-le (length (piece m s k)) Z (omega (arith, length-piece m s k, length-bytes w (iterate (blank w f R) a k)))))

-- a piece of n bytes of output
pub drawn_piece : (w : ℕ) (f : List ℕ → List ℕ) (R : ℕ) (a : List ℕ) (n k : ℕ) → R - 1 ≤ 25 * (w / 8) → k < blocks R n
    → piece (R - 1) (drawn w f R a n) k ≡ take (length (piece (R - 1) (drawn w f R a n) k)) (bytes w (absorb w f a (replicate k (framed R 0 []))))
drawn_piece w f R a n k l h =
    rw (length-replicate {A = ℕ} n 0) at (drawn_over w f R a (replicate n 0) k l (rw (length-replicate {A = ℕ} n 0) h))
