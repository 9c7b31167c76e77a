-- Squeezing is a loop over pieces too: m bytes of each state, and `next` from one state to the following. Of the string that it
-- goes over, the output as it was lent, only the lengths count.
use mathlib.Core.Path.{◌≡◌, refl, sym, ap, ◌∙◌}
use mathlib.Core.List.{List, [], ◌∷◌, ◌++◌}
use Prim.Native.Nat.{ℕ, zero, suc, ◌+◌, ◌-◌, ◌*◌, ◌/◌, ◌≤◌, ◌<◌, min}
use native.Mathlib.Nat.{suc-mul, le_refl, zero-min, min-zero, suc-min-suc}
use native.Mathlib.Omega.{arith}
use lib.ListN.{length, take, drop, replicate, length-take, length-drop, length-replicate}
use lib.Seq.{length-take-le, take-nil, take-append-add}
use Rattle.sponge.specs.Bytes.{bytes}
use Rattle.sponge.specs.Pieces.{piece, before}
use Rattle.sponge.specs.Sponge.{iterate, stream, squeeze}
use Rattle.sponge.proofs.Table.{length-table, whole}
use Rattle.sponge.proofs.Pieces.{length-piece, before_low}
use Rattle.sponge.proofs.Turns.{reached, ran_last, wrote, written, Wrote, wrote_more, wrote_last, length-wrote, length-written}

pub length-bytes : (w : ℕ) (a : List ℕ) → length (bytes w a) ≡ 25 * (w / 8)
unfolding bytes
length-bytes w a = length-table (25 * (w / 8)) _

-- what a turn makes of state and piece: the next state, and as many bytes of the state as the piece has
abbrev pub onward : (List ℕ → List ℕ) → List ℕ → List ℕ → List ℕ
onward next st p = next st

abbrev pub given : ℕ → List ℕ → List ℕ → List ℕ
given w st p = take (length p) (bytes w st)

same_room : (n at : ℕ) (x y : List ℕ) → length x ≡ length y → length (take n (drop at x)) ≡ length (take n (drop at y))
same_room n at x y e = simp (length-take, length-drop, e)

take_min : (i m : ℕ) (l : List ℕ) → take i (take m l) ≡ take (min m i) l
take_min zero m l = rw min-zero
take_min (suc i) zero l = rw zero-min
take_min (suc i) (suc m) [] = sym (take-nil (min (suc m) (suc i)))
take_min (suc i) (suc m) (x ∷ l) = rw suc-min-suc (ap (λ (t : List ℕ). x ∷ t) (take_min i m l))

pub given-length : (w m : ℕ) → m ≤ 25 * (w / 8) → (st p : List ℕ) → length p ≤ m → length (given w st p) ≡ length p
given-length w m v st p h = length-take-le (length p) (bytes w st) (omega (arith, length-bytes w st))

-- the loop stands at `at`, with the state st, and out, which was s, is filled so far
abbrev pub Squeezed : ℕ → (List ℕ → List ℕ) → ℕ → List ℕ → List ℕ → ℕ → List ℕ → List ℕ → Type 0
Squeezed w next m a s at st out = Wrote m (onward next) (given w) s a s at st out

module _ (w : ℕ) (next : List ℕ → List ℕ) (m : ℕ) (a s : List ℕ) where
  pub reached_iterate : (k : ℕ) → reached m (onward next) s a k ≡ iterate next a k
  unfolding reached iterate
  reached_iterate zero = refl
  reached_iterate (suc k) = ap next (reached_iterate k)

  wrote_stream : (k : ℕ) → k * m ≤ length s → wrote m (onward next) (given w) s a k ≡ stream w next m a k
  unfolding wrote stream
  wrote_stream zero h = refl
  wrote_stream (suc k) h =
      let n : length (piece m s k) ≡ m = omega (arith, length-piece m s k, suc-mul k m) in
      rw (n, reached_iterate k, wrote_stream k (omega (arith, suc-mul k m)))

  pub squeeze_written : ((st p : List ℕ) → length p ≤ m → length (given w st p) ≡ length p)
      → squeeze w next m a (length s) ≡ written m (onward next) (given w) s a
  unfolding squeeze stream wrote written
  squeeze_written as_long =
      let k : ℕ = before m (length s) in
      let S : List ℕ = stream w next m a k in
      let Z : List ℕ = bytes w (iterate next a k) in
      let low : k * m ≤ length s = omega (arith, before_low m (length s)) in
      let l : length S ≡ k * m = rw (← wrote_stream k low) (length-wrote m (onward next) (given w) s a as_long k low) in
      let e : length s ≡ length S + (length s - k * m) = omega arith in
      ap (λ (z : ℕ). take z (S ++ take m Z)) e ∙ take-append-add S (take m Z) (length s - k * m)
      ∙ rw (wrote_stream k low, reached_iterate k, length-piece, take_min)

  pub squeezed_more : (at e : ℕ) (st st' out X : List ℕ) → Squeezed w next m a s at st out → e ≡ at + m → at ≤ length s - 1
      → length out ≡ length s → X ≡ take (length (take (e - at) (drop at out))) (bytes w st) → st' ≡ next st
      → Squeezed w next m a s e st' (take at out ++ (X ++ drop (e - at) (drop at out)))
  squeezed_more at e st st' out X r h b l x t =
      wrote_more m _ _ s a s at e st st' out X r h b t (x ∙ rw (same_room (e - at) at out s l))

  module _ (at : ℕ) (st out : List ℕ) (r : Squeezed w next m a s at st out) (l : length out ≡ length s) (b : at ≤ length s - 1) (u : length out - at ≤ m) where
    pub squeezed_last : (X : List ℕ) → X ≡ take (length (take (length out - at) (drop at out))) (bytes w st)
        → take at out ++ (X ++ drop (length out - at) (drop at out)) ≡ squeeze w next m a (length s)
    squeezed_last X x =
        rw (squeeze_written r.as_long, l)
        (whole _ _ s (length s) (wrote_last m _ _ s a s at st out X r b (omega arith) (x ∙ rw (same_room (length out - at) at out s l, l))) (le_refl (length s)))

    -- the state that it leaves
    pub squeezed_state : st ≡ iterate next a (before m (length s))
    squeezed_state =
        ran_last m _ s a (λ st _. st) at st st r.ran refl b (omega arith) ∙ reached_iterate (before m (length s))

pub length-squeeze : (w : ℕ) (next : List ℕ → List ℕ) (m : ℕ) (a : List ℕ) (n : ℕ) → 0 < m → m ≤ 25 * (w / 8) → length (squeeze w next m a n) ≡ n
length-squeeze w next m a n p v =
    let s : List ℕ = replicate n 0 in
    let as_long = given-length w m v in
    rw (length-replicate {A = ℕ} n 0) at (ap length (squeeze_written w next m a s as_long) ∙ length-written m (onward next) (given w) s a as_long p)
