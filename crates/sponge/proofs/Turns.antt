-- A loop over the pieces of a string s from a state a: a turn takes a piece of m bytes, goes on to the state that N gives of
-- state and piece, and may write what O gives of them, as many bytes as it took. What such a loop has done where it stands.
use mathlib.Core.Path.{◌≡◌, refl, sym, ◌∙◌}
use mathlib.Core.List.{List, [], ◌∷◌, ◌++◌}
use mathlib.Core.Logic.{⊎_elim}
use Prim.Native.Nat.{ℕ, zero, suc, ◌+◌, ◌-◌, ◌*◌, ◌/◌, ◌≤◌, ◌<◌, min}
use native.Mathlib.Nat.{suc-mul, zero-mul, mul-le-mul_right, not-suc-le-zero, le_of_suc-le-suc, eq-or-lt_of_le}
use native.Mathlib.Omega.{arith}
use lib.ListN.{length, take, drop, length-append}
use Rattle.sponge.specs.Pieces.{piece, blocks_of, before}
use Rattle.sponge.specs.Sponge.{absorb_block, absorb}
use Rattle.sponge.proofs.Pieces.{piece_mid, piece_last, piece_front, piece_end, length-piece, rest_is, before_is, before_low, before_high, absorb_more, laid}

module _ (m : ℕ) (N : List ℕ → List ℕ → List ℕ) (s a : List ℕ) where
  -- the state after k turns
  unfoldable pub reached : ℕ → List ℕ
  reached zero = a
  reached (suc k) = N (reached k) (piece m s k)

  -- the loop stands at `at`, with the state st
  pub record Ran (at : ℕ) (st : List ℕ) : Type 0 where
    pub room : 0 < m
    pub k : ℕ
    pub at_is : at ≡ k * m
    pub st_is : st ≡ reached k

  pub ran_none : 0 < m → Ran 0 a
  unfolding reached
  ran_none p = record { room = p; k = 0; at_is = sym (zero-mul m); st_is = refl }

  pub ran_more : (at e : ℕ) (st st' : List ℕ) → Ran at st → e ≡ at + m → st' ≡ N st (take (e - at) (drop at s)) → Ran e st'
  unfolding reached
  ran_more at e st st' r h d =
      record {
        room = r.room;
        k = suc r.k;
        at_is = omega (arith, suc-mul r.k m);
        st_is = rw (d, piece_mid m s r.k at e r.at_is h, r.st_is);
      }

  module _ (L : List ℕ → List ℕ → List ℕ) (at : ℕ) (st st' : List ℕ) (r : Ran at st) (d : st' ≡ L st (take (length s - at) (drop at s))) where
    -- after the loop, the last piece of a string that is cut into pieces of 1 to m bytes is taken by L
    pub ran_last : at ≤ length s - 1 → length s - at ≤ m → st' ≡ L (reached (before m (length s))) (piece m s (before m (length s)))
    ran_last b l = rw (before_is m (length s) r.k at r.room r.at_is b l, d, piece_last m s r.k at r.at_is l, r.st_is)

    -- or the rest of a string whose whole pieces have m bytes
    pub ran_rest : at ≤ length s → length s - at < m → st' ≡ L (reached (length s / m)) (piece m s (length s / m))
    ran_rest b l =
        rw (rest_is m (length s) r.k at r.at_is b l, d, piece_last m s r.k at r.at_is (omega arith), r.st_is)

-- a loop that absorbs each piece as a block, made by g; and one block more
module _ (w : ℕ) (f : List ℕ → List ℕ) (m : ℕ) (g : List ℕ → List ℕ) (s a : List ℕ) where
  pub reached_blocks : (k : ℕ) → reached m (λ st p. absorb_block w f st (g p)) s a k ≡ absorb w f a (blocks_of m g s k)
  unfolding reached blocks_of absorb
  reached_blocks zero = refl
  reached_blocks (suc k) = rw (absorb_more, reached_blocks k)

  pub reached_block : (k : ℕ) (b : List ℕ)
      → absorb_block w f (reached m (λ st p. absorb_block w f st (g p)) s a k) b ≡ absorb w f a (blocks_of m g s k ++ (b ∷ []))
  reached_block k b = rw (absorb_more, reached_blocks k)

-- ---- what it has written

module _ (m : ℕ) (N O : List ℕ → List ℕ → List ℕ) (s a : List ℕ) where
  -- in k turns
  unfoldable pub wrote : ℕ → List ℕ
  wrote zero = []
  wrote (suc k) = wrote k ++ O (reached m N s a k) (piece m s k)

  -- and with the last piece
  unfoldable pub written : List ℕ
  written = wrote (suc (before m (length s)))

  -- the loop stands at `at`, with the state st, and out held d
  pub record Wrote (d : List ℕ) (at : ℕ) (st out : List ℕ) : Type 0 where
    pub as_long : (st p : List ℕ) → length p ≤ m → length (O st p) ≡ length p
    pub ran : Ran m N s a at st
    pub out_is : out ≡ wrote ran.k ++ drop at d

  module _ (as_long : (st p : List ℕ) → length p ≤ m → length (O st p) ≡ length p) where
    length_more : (k : ℕ) → length (wrote (suc k)) ≡ length (wrote k) + min m (length s - k * m)
    unfolding wrote
    length_more k = rw (length-append, as_long _ (piece m s k) (omega (arith, length-piece m s k)), length-piece)

    pub length-wrote : (k : ℕ) → k * m ≤ length s → length (wrote k) ≡ k * m
    unfolding wrote
    length-wrote zero h = sym (zero-mul m)
    length-wrote (suc k) h = omega (arith, suc-mul k m, length_more k, length-wrote k (omega (arith, suc-mul k m)))

    pub length-written : 0 < m → length written ≡ length s
    unfolding written
    length-written p =
        let k : ℕ = before m (length s) in
        omega (arith, before_low m (length s), before_high m (length s) p, length_more k, length-wrote k (omega (arith, before_low m (length s))))

    piece_wrote : (n j : ℕ) → j < n → n * m ≤ length s + m → piece m (wrote n) j ≡ O (reached m N s a j) (piece m s j)
    unfolding wrote
    piece_wrote zero j h b = absurd (not-suc-le-zero h)
    piece_wrote (suc n) j h b =
        let l : length (wrote n) ≡ n * m = length-wrote n (omega (arith, suc-mul n m)) in
        ⊎_elim (λ e. rw e (piece_end m (wrote n) _ n l (omega (arith, length-piece m s n, as_long (reached m N s a n) (piece m s n) (omega (arith, length-piece m s n))))))
        (λ q. piece_front m (wrote n) _ j (omega (arith, mul-le-mul_right m q)) ∙ piece_wrote n j q (omega (arith, suc-mul n m)))
        (eq-or-lt_of_le (le_of_suc-le-suc h))

    -- piece j of it
    pub piece_written : (j : ℕ) → j ≤ before m (length s) → piece m written j ≡ O (reached m N s a j) (piece m s j)
    unfolding written
    piece_written j h =
        let k : ℕ = before m (length s) in
        piece_wrote (suc k) j (omega arith) (omega (arith, suc-mul k m, before_low m (length s)))

    pub wrote_none : 0 < m → (d : List ℕ) → Wrote d 0 a d
    unfolding wrote ran_none
    wrote_none p d = record { as_long = as_long; ran = ran_none m N s a p; out_is = refl }

  pub wrote_more : (d : List ℕ) (at e : ℕ) (st st' out X : List ℕ) → Wrote d at st out → e ≡ at + m → at ≤ length s - 1
      → st' ≡ N st (take (e - at) (drop at s)) → X ≡ O st (take (e - at) (drop at s))
      → Wrote d e st' (take at out ++ (X ++ drop (e - at) (drop at out)))
  unfolding wrote ran_more
  wrote_more d at e st st' out X r h b t x =
      let q = r.ran in
      record {
        as_long = r.as_long;
        ran = ran_more m N s a at e st st' q h t;
        out_is =
            laid (wrote q.k) X d out at (e - at) e r.out_is (omega (arith, length-wrote r.as_long q.k (omega arith))) (omega arith)
            ∙ rw (x, piece_mid m s q.k at e q.at_is h, q.st_is);
      }

  pub wrote_last : (d : List ℕ) (at : ℕ) (st out X : List ℕ) → Wrote d at st out → at ≤ length s - 1 → length s - at ≤ m
      → X ≡ O st (take (length s - at) (drop at s)) → take at out ++ (X ++ drop (length s - at) (drop at out)) ≡ written ++ drop (length s) d
  unfolding wrote written
  wrote_last d at st out X r b l x =
      let q = r.ran in
      laid (wrote q.k) X d out at (length s - at) (length s) r.out_is (omega (arith, length-wrote r.as_long q.k (omega arith))) (omega arith)
      ∙ rw (x, piece_last m s q.k at q.at_is l, q.st_is, before_is m (length s) q.k at q.room q.at_is b l)
