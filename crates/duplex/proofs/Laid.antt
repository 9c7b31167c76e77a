-- A loop that writes n bytes from the front, piece by piece. `Laid` says what is written where the loop stands at `at`: with `left`, what
-- is still to be written, behind it, and then the bytes past n as they are, it is all.
use mathlib.Core.Path.{◌≡◌, refl}
use mathlib.Core.List.{List, ◌++◌, append_assoc, append-nil}
use Prim.Native.Nat.{ℕ, ◌+◌, ◌-◌, ◌≤◌}
use native.Mathlib.Omega.{arith}
use borrow.Rule.Slice.PartMut.{put_mid}
use lib.ListN.{length, take, drop, length-append, length-take, length-drop, drop_of_length-le}
use lib.Seq.{drop-drop}
use Rattle.std.proofs.lemmas.Slice.{take-put_mid, drop-put_mid}

pub record Laid (n : ℕ) (all : List ℕ) (at : ℕ) (left out : List ℕ) : Type 0 where
  pub within : at ≤ n
  pub room : n ≤ length out
  pub out_is : take at out ++ (left ++ drop n out) ≡ all

-- nothing yet
pub laid_none : (n : ℕ) (left out : List ℕ) → n ≤ length out → Laid n (left ++ drop n out) 0 left out
laid_none n left out h = record { within = omega arith; room = h; out_is = refl }

-- where it is all of `out` that is written
pub laid_none_whole : (n : ℕ) (left out : List ℕ) → length out ≡ n → Laid n left 0 left out
laid_none_whole n left out h =
    rw (drop_of_length-le out {i = n} (omega arith), append-nil) at (laid_none n left out (omega arith))

module _ (n : ℕ) (all : List ℕ) (at : ℕ) (left out : List ℕ) (h : Laid n all at left out) where
  -- X more
  pub laid_more : (e : ℕ) (left' X : List ℕ) → left ≡ X ++ left' → at + length X ≡ e → e ≤ n → Laid n all e left' (put_mid at (e - at) out X)
  laid_more e left' X l b c =
      let v = h.room in
      let t : take e (put_mid at (e - at) out X) ≡ take at out ++ X = take-put_mid at (e - at) out X e (omega arith) (omega arith) in
      let d : drop n (put_mid at (e - at) out X) ≡ drop n out = drop-put_mid at (e - at) out X n (omega arith) (omega arith) (omega arith) in
      record {
        within = c;
        room = simp (length-append, length-take, length-drop) (omega arith);
        out_is = rw (t, d, append_assoc) (rw (l, append_assoc) at h.out_is);
      }

  -- and the last of it
  pub laid_last : (X : List ℕ) → left ≡ X → put_mid at (n - at) out X ≡ all
  laid_last X l =
      let u = h.within in
      let e : at + (n - at) ≡ n = omega arith in
      rw (drop-drop, e) (rw l at h.out_is)
