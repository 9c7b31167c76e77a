-- A call over an image by its outcome: an image of another length, or the session's own call, settled.
use mathlib.Core.Path.{◌≡◌, refl, ap, ◌∙◌}
use mathlib.Core.List.{List, [], ◌++◌}
use mathlib.Core.Bool.{Bool, true, false, not}
use Prim.Native.Nat.{ℕ, ◌≤◌}
use native.Mathlib.Omega.{arith}
use lib.Dec.{eqb}
use lib.ListN.{length, take, drop}
use Rattle.std.specs.Array.{IsWholeChunk}
use Rattle.refusal.specs.Rows.{pick, by}
use Rattle.refusal.proofs.Rows.{taken, passed, kept}
use Rattle.refusal.proofs.Tests.{other, alike}
use Rattle.spongewrap.specs.Desk.{desk}
use Rattle.spongewrap.specs.Sessions as sessions
use Rattle.spongewrap.specs.Sessions.{Answer, opens, wraps, unwraps}
use Rattle.spongewrap.specs.declared.Session.{Session}
use Rattle.spongewrap.proofs.Theorems as theorems
use Rattle.image.specs.Image.{image_length, image_of, session_of}
use Rattle.image.specs.Calls.{Seen, seen, sized, over_image, opens_image, wraps_image, unwraps_image}

-- ---- for the proofs of the calls

module _ (n : ℕ) (b o : List ℕ) where
  pub other_length : (v : Seen) (k : ℕ) → (length b ≡ n → ⊥) → k ≡ 6 → seen k b o ≡ sized n b o v
  other_length v k h e = rw e (taken (seen 6 b o) v (other (length b) n h))

  pub right_length : (u v : Seen) → length b ≡ n → u ≡ v → u ≡ sized n b o v
  right_length u v h e = passed (seen 6 b o) (alike (length b) n h) e

-- y is the image i as an array
module _ (i y o : List ℕ) (whole : IsWholeChunk i y image_length) where
  -- a call on its session came to w, of which u is shown
  pub on_image : {W : Type 0} (shown : W → Seen) (call : Session → W) (s : Session) → s ≡ session_of y → (w : W) → w ≡ call s → (u : Seen) → u ≡ shown w
      → u ≡ sized image_length i o (shown (call (session_of i)))
  on_image shown call s z w e u f =
      right_length image_length i o u (shown (call (session_of i))) whole.long (f ∙ ap shown (e ∙ ap call (z ∙ ap session_of whole.same)))

  -- that call answers a and leaves o' of the output o; then a is stored in the image
  pub called : (call : Session → sessions.Seen) (s : Session) → s ≡ session_of y → (a : Answer) (o' : List ℕ) → sessions.seen a o' ≡ call s → (n : ℕ) (i' : List ℕ)
      → n ≡ a.number → i' ≡ by a.number y (image_of a.session) → seen n i' o' ≡ sized image_length i o (over_image i (call (session_of i)))
  called call s z a o' e n i' f g = on_image (over_image i) call s z (sessions.seen a o') e (seen n i' o') (rw (f, g, whole.same))

-- ---- a refused call leaves image and output

pub record Kept (i o : List ℕ) (v : Seen) : Type 0 where
  pub image : v.image ≡ i
  pub out : v.out ≡ o

sized_kept : (t : Bool) (i o : List ℕ) (w : sessions.Seen) → ((w.answer.number ≡ 0 → ⊥) → w.out ≡ o) → ((pick t (seen 6 i o) (over_image i w)).number ≡ 0 → ⊥)
    → Kept i o (pick t (seen 6 i o) (over_image i w))
unfolding pick
sized_kept true i o w k d = record { image = refl; out = refl }
sized_kept false i o w k d = record { image = kept w.answer.number i (image_of w.answer.session) d; out = k d }

pub open_kept : (key : List ℕ) (R t : ℕ) (i : List ℕ) → ((opens_image key R t i).number ≡ 0 → ⊥) → Kept i [] (opens_image key R t i)
unfolding opens_image
open_kept key R t i d = sized_kept _ i [] _ (λ _. refl) d

pub wrap_kept : (i h b o : List ℕ) → ((wraps_image i h b o).number ≡ 0 → ⊥) → Kept i o (wraps_image i h b o)
unfolding wraps_image
wrap_kept i h b o d = sized_kept _ i o _ (λ e. (theorems.wrap_kept desk (session_of i) h b o e).out) d

pub unwrap_kept : (i h c t o : List ℕ) → ((unwraps_image i h c t o).number ≡ 0 → ⊥) → Kept i o (unwraps_image i h c t o)
unfolding unwraps_image
unwrap_kept i h c t o d = sized_kept _ i o _ (λ e. (theorems.unwrap_kept desk (session_of i) h c t o e).out) d

-- ---- two calls on one image

-- All refusals numbered 8 on one image and one lent output are the same, whatever was handed over.
pub eights_alike : (i o h c t h' c' t' : List ℕ) → (unwraps_image i h c t o).number ≡ 8 → (unwraps_image i h' c' t' o).number ≡ 8
    → unwraps_image i h c t o ≡ unwraps_image i h' c' t' o
unfolding unwraps_image pick
eights_alike i o h c t h' c' t' = go (not (eqb (length i) image_length))
  where
    over : Bool → List ℕ → List ℕ → List ℕ → Seen
    over y h c t = pick y (seen 6 i o) (over_image i (unwraps desk (session_of i) h c t o))

    go : (y : Bool) → (over y h c t).number ≡ 8 → (over y h' c' t').number ≡ 8 → over y h c t ≡ over y h' c' t'
    go true e f = refl
    go false e f = ap (over_image i) (theorems.eights_alike desk (session_of i) o h c t h' c' t' e f)

-- an accepted call was handed a whole image
pub was_whole : (t : Bool) (i o : List ℕ) (v : Seen) → (pick t (seen 6 i o) v).number ≡ 0 → t ≡ false
unfolding pick
was_whole true i o v e = absurd (omega arith)
was_whole false i o v e = refl

-- What was wrapped over an image comes back exactly over the same image, and leaves the same image.
pub wrap_unwrap : (i h b o o' : List ℕ) → (wraps_image i h b o).number ≡ 0 → length b ≤ length o'
    → unwraps_image i h (take (length b) (wraps_image i h b o).out) (take (session_of i).tag (drop (length b) (wraps_image i h b o).out)) o'
    ≡ seen 0 (wraps_image i h b o).image (b ++ drop (length b) o')
unfolding wraps_image unwraps_image pick by
wrap_unwrap i h b o o' e l =
    let q = was_whole (not (eqb (length i) image_length)) i o (over_image i (wraps desk (session_of i) h b o)) e in
    let n = rw q at e in
    rw (q, theorems.wrap_unwrap desk (session_of i) h b o n o' l, n)
