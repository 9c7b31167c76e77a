-- Opening is a loop over the ciphertext's pieces: each is unmasked by the state before it, and what it gives is absorbed and written.
use mathlib.Core.Path.{◌≡◌, refl, ap, subst, ◌∙◌}
use mathlib.Core.List.{List, [], ◌∷◌, ◌++◌}
use Prim.Native.Nat.{ℕ, zero, suc, ◌-◌, ◌*◌, ◌≤◌, ◌<◌}
use native.Mathlib.Nat.{suc-mul}
use native.Mathlib.Omega.{arith}
use lib.ListN.{length}
use Rattle.sponge.specs.Bytes.{bytes}
use Rattle.sponge.specs.Pieces.{piece, blocks_of, before}
use Rattle.sponge.specs.Sponge.{absorb, absorb_block}
use Rattle.sponge.proofs.Pieces.{before_low, piece_end, blocks_of_front, length-piece, absorb_more}
use Rattle.sponge.proofs.Turns.{reached, wrote, written, length-wrote, length-written, piece_written}
use Rattle.duplex.specs.Duplex.{framed, duplexing}
use Rattle.duplex.specs.Strings.{blocks, front, xored, unmasked, opened}
use Rattle.duplex.proofs.Strings.{length-xored, taken}
use Rattle.duplex.proofs.Seal.{mask, mask-length}

-- the state after a turn that unmasks the piece p and takes it with the frame bit b
abbrev pub taken_unmasked : ℕ → (List ℕ → List ℕ) → ℕ → ℕ → List ℕ → List ℕ → List ℕ
taken_unmasked w f R b st p = duplexing w f R st (mask w st p) b

-- the blocks of a string whose whole pieces are P and whose next one is X
front_next : (R b : ℕ) (P X : List ℕ) (k : ℕ) → length P ≡ k * (R - 1) → length X ≤ R - 1
    → front R b (P ++ X) (suc k) ≡ front R b P k ++ (framed R b X ∷ [])
unfolding front blocks_of
front_next R b P X k h l =
    rw (blocks_of_front (R - 1) (framed R b) P X k (omega arith), piece_end (R - 1) P X k h l)

module _ (w : ℕ) (f : List ℕ → List ℕ) (R : ℕ) (a c : List ℕ) where
  -- the state s after the whole pieces of P, and the one that its next piece X takes it to
  front_taken : (k : ℕ) (u P X s : List ℕ) → u ≡ P ++ X → length P ≡ k * (R - 1) → length X ≤ R - 1
      → absorb w f a (front R 1 P k) ≡ s → absorb w f a (front R 1 u (suc k)) ≡ duplexing w f R s X 1
  unfolding duplexing
  front_taken k u P X s e h l q =
      ap (λ v. absorb w f a (front R 1 v (suc k))) e
      ∙ ap (absorb w f a) (front_next R 1 P X k h l)
      ∙ absorb_more w f a (front R 1 P k) (framed R 1 X)
      ∙ ap (λ v. absorb_block w f v (framed R 1 X)) q

  -- states and plaintext, k pieces of it: the states are those that absorbing the plaintext leaves
  unmasked_is : (k : ℕ) → k * (R - 1) ≤ length c
      → (unmasked w f R a c k ≡ wrote (R - 1) (taken_unmasked w f R 1) (mask w) c a k) × (absorb w f a (front R 1 (unmasked w f R a c k) k) ≡ reached (R - 1) (taken_unmasked w f R 1) c a k)
  unfolding unmasked wrote reached front blocks_of absorb
  unmasked_is zero h = (refl, refl)
  unmasked_is (suc k) h =
      let i = unmasked_is k (omega (arith, suc-mul k (R - 1))) in
      let P : List ℕ = wrote (R - 1) (taken_unmasked w f R 1) (mask w) c a k in
      let z : List ℕ = bytes w (reached (R - 1) (taken_unmasked w f R 1) c a k) in
      let X : List ℕ = xored (piece (R - 1) c k) z in
      let e : unmasked w f R a c (suc k) ≡ P ++ X = rw (i.1, i.0) in
      let lp : length P ≡ k * (R - 1) = length-wrote (R - 1) (taken_unmasked w f R 1) (mask w) c a (mask-length w (R - 1)) k (omega (arith, suc-mul k (R - 1))) in
      let lx : length X ≤ R - 1 = omega (arith, length-xored (piece (R - 1) c k) z, length-piece (R - 1) c k) in
      let q : absorb w f a (front R 1 P k) ≡ reached (R - 1) (taken_unmasked w f R 1) c a k =
      subst (λ v. absorb w f a (front R 1 v k) ≡ reached (R - 1) (taken_unmasked w f R 1) c a k) i.0 i.1 in
      (e, front_taken k _ P X _ e lp lx q)

  pub opened_written : opened w f R a c ≡ written (R - 1) (taken_unmasked w f R 1) (mask w) c a
  unfolding opened written wrote unmasked blocks
  opened_written =
      let k : ℕ = before (R - 1) (length c) in
      let e = unmasked_is k (omega (arith, before_low (R - 1) (length c))) in
      rw (e.1, e.0)

  pub length-opened : 1 < R → length (opened w f R a c) ≡ length c
  length-opened h =
      ap length opened_written ∙ length-written (R - 1) (taken_unmasked w f R 1) (mask w) c a (mask-length w (R - 1)) (omega arith)

  -- a piece of the plaintext
  pub opening_piece : (k : ℕ) → k ≤ before (R - 1) (length c)
      → piece (R - 1) (opened w f R a c) k ≡ mask w (reached (R - 1) (taken_unmasked w f R 1) c a k) (piece (R - 1) c k)
  opening_piece k h = rw opened_written (piece_written (R - 1) (taken_unmasked w f R 1) (mask w) c a (mask-length w (R - 1)) k h)

  -- opening goes through the states that absorbing the plaintext goes through
  pub opening_reached : (k : ℕ) → k ≤ before (R - 1) (length c)
      → reached (R - 1) (taken_unmasked w f R 1) c a k ≡ reached (R - 1) (taken w f R 1) (opened w f R a c) a k
  unfolding reached
  opening_reached zero h = refl
  opening_reached (suc k) h = rw (opening_piece k (omega arith), opening_reached k (omega arith))
