-- Demands 2 and 3 over images: a run of calls from an accepted open leaves the image of the session that the same calls lead to.
use mathlib.Core.Path.{◌≡◌, refl, sym, ap, ◌∙◌}
use mathlib.Core.List.{List, [], ◌∷◌, ◌++◌, map}
use Prim.Native.Nat.{ℕ, zero, suc, ◌≤◌}
use native.Mathlib.Omega.{arith}
use mathlib.Core.Bool.{not}
use lib.Dec.{eqb}
use lib.ListN.{length, take, drop}
use Rattle.refusal.specs.Rows.{pick, by}
use Rattle.refusal.proofs.Rows.{made}
use Rattle.refusal.proofs.Tests.{alike}
use Rattle.spongewrap.specs.Desk.{desk}
use Rattle.spongewrap.specs.Sessions as sessions
use Rattle.spongewrap.specs.Sessions.{opens, wraps, unwraps}
use Rattle.spongewrap.specs.History.{Call, answered, SealedPair, pair_with, content, after_calls, accepted_pairs, Tells}
use Rattle.spongewrap.specs.History.Call.{wrapping, unwrapping}
use Rattle.spongewrap.specs.declared.Session.{Session}
use Rattle.spongewrap.proofs.Theorems.{wrap_kept, unwrap_kept}
use Rattle.spongewrap.proofs.Histories.{history_tells}
use Rattle.spongewrap.proofs.ComesBack.{same_history}
use Rattle.image.specs.Image.{image_length, image_of, session_of}
use Rattle.image.specs.Calls.{Seen, seen, sized, over_image, opens_image, wraps_image, unwraps_image}
use Rattle.image.proofs.Bounds.{Below}
use Rattle.image.proofs.Image.{Held, length_image, session_image}
use Rattle.image.proofs.Calls.{was_whole, wrap_unwrap}
use Rattle.image.proofs.Held.{open_held, Handed, call_held}

-- ---- calls over an image, each given the image that the last one left

unfoldable pub calls_image : List ℕ → Call → Seen
calls_image i (wrapping h b o) = wraps_image i h b o
calls_image i (unwrapping h c t o) = unwraps_image i h c t o

-- the image that some calls leave
unfoldable pub image_after : List ℕ → List Call → List ℕ
image_after i [] = i
image_after i (c ∷ cs) = image_after (calls_image i c).image cs

-- the pairs that were accepted
unfoldable pub accepted_image : List ℕ → List Call → List SealedPair
accepted_image i [] = []
accepted_image i (c ∷ cs) =
    by (calls_image i c).number [] (pair_with (session_of i).tag c (calls_image i c).out ∷ []) ++ accepted_image (calls_image i c).image cs

unfoldable pub AllHanded : List Call → Type 0
AllHanded [] = Unit {0}
AllHanded (c ∷ cs) = Handed c × AllHanded cs

-- ---- one call

-- a refusal gives back the session s, so that in either case the image is that of the session s' that a call gave
kept_image : (n : ℕ) (s s' : Session) → ((n ≡ 0 → ⊥) → s' ≡ s) → by n (image_of s) (image_of s') ≡ image_of s'
unfolding by
kept_image zero s s' h = refl
kept_image (suc n) s s' h = ap image_of (sym (h (λ e. omega arith)))

-- what is seen of a call on a session, over its image
abbrev shown : sessions.Seen → Seen
shown w = seen w.answer.number (image_of w.answer.session) w.out

module _ (s : Session) (e : Held s) where
  over_image_lem : (o : List ℕ) (call : Session → sessions.Seen) → (((call s).answer.number ≡ 0 → ⊥) → (call s).answer.session ≡ s)
      → sized image_length (image_of s) o (over_image (image_of s) (call (session_of (image_of s)))) ≡ shown (call s)
  unfolding pick
  over_image_lem o call k =
      rw (alike (length (image_of s)) image_length (length_image s), session_image s e, kept_image (call s).answer.number s (call s).answer.session k)

  call_image : (c : Call) → calls_image (image_of s) c ≡ shown (answered desk s c)
  unfolding calls_image answered wraps_image unwraps_image
  call_image (wrapping h b o) = over_image_lem o (λ r. wraps desk r h b o) (λ d. (wrap_kept desk s h b o d).session)
  call_image (unwrapping h c t o) = over_image_lem o (λ r. unwraps desk r h c t o) (λ d. (unwrap_kept desk s h c t o d).session)

-- ---- a run

record Run (s : Session) (cs : List Call) : Type 0 where
  held : Held (after_calls desk s cs)
  image : image_after (image_of s) cs ≡ image_of (after_calls desk s cs)
  pairs : accepted_image (image_of s) cs ≡ accepted_pairs desk s cs

run : (s : Session) → Held s → (cs : List Call) → AllHanded cs → Run s cs
unfolding after_calls accepted_pairs image_after accepted_image AllHanded
run s e [] h = record { held = e; image = refl; pairs = refl }
run s e (c ∷ cs) h =
    let i = run (answered desk s c).answer.session (call_held s e c h.0) cs h.1 in
    record {
      held = i.held;
      image = rw (call_image s e c) i.image;
      pairs = rw (call_image s e c, session_image s e, i.pairs);
    }

-- ---- from an open

module _ (key : List ℕ) (R t : ℕ) where
  -- where calls lead to from an open over the image i, and the pairs that are accepted on the way
  abbrev pub reached : List ℕ → List Call → List ℕ
  reached i cs = image_after (opens_image key R t i).image cs

  abbrev pub passed : List ℕ → List Call → List SealedPair
  passed i cs = accepted_image (opens_image key R t i).image cs

  abbrev begun : Session
  begun = (opens desk key R t).session

  module _ (k : Below 256 key) where
    module _ (i : List ℕ) (e : (opens_image key R t i).number ≡ 0) where
      opened : ((opens desk key R t).number ≡ 0) × ((opens_image key R t i).image ≡ image_of begun)
      unfolding opens_image pick
      opened =
          let q = was_whole (not (eqb (length i) image_length)) i [] (over_image i (sessions.seen (opens desk key R t) [])) e in
          let n = rw q at e in
          (n, rw q (made (opens desk key R t).number i (image_of begun) n))

      module _ (cs : List Call) (h : AllHanded cs) where
        ran : Run begun cs
        ran = run begun (open_held key R t k opened.0) cs h

        -- After any mixture of calls from an accepted open, refused ones too, the image is that of the session after them.
        pub image_after_lem : reached i cs ≡ image_of (after_calls desk begun cs)
        image_after_lem = rw opened.1 ran.image

        same_pairs : passed i cs ≡ accepted_pairs desk begun cs
        same_pairs = rw opened.1 ran.pairs

        -- Demand 3 over images: count, lanes and outputs are read off the history of the pairs that were accepted.
        pub image_tells : Tells desk R t key (passed i cs) (session_of (reached i cs))
        image_tells = rw (image_after_lem, same_pairs, session_image (after_calls desk begun cs) ran.held) (history_tells desk key R t cs opened.0)

    module _ (i i' : List ℕ) (e : (opens_image key R t i).number ≡ 0) (e' : (opens_image key R t i').number ≡ 0) (cs ds : List Call) (u : AllHanded cs) (v : AllHanded ds)
        (m : map content (passed i cs) ≡ map content (passed i' ds)) where
      -- Two runs from opens by one key and settings in which the same headers and bodies were accepted in the same order leave the same image.
      pub same_image : reached i cs ≡ reached i' ds
      same_image =
          image_after_lem i e cs u
          ∙ ap image_of (same_history desk key R t (opened i e).0 cs ds (rw (same_pairs i e cs u, same_pairs i' e' ds v) at m))
          ∙ sym (image_after_lem i' e' ds v)

      -- Demand 2 over images: what is then wrapped over the one comes back exactly over the other, and both are the same image again.
      pub image_comes_back : (h b o o' : List ℕ) → (wraps_image (reached i cs) h b o).number ≡ 0 → length b ≤ length o'
          → unwraps_image (reached i' ds) h (take (length b) (wraps_image (reached i cs) h b o).out) (take t (drop (length b) (wraps_image (reached i cs) h b o).out)) o'
          ≡ seen 0 (wraps_image (reached i cs) h b o).image (b ++ drop (length b) o')
      image_comes_back h b o o' z l =
          let q = wrap_unwrap (reached i cs) h b o o' z l in
          rw (← same_image) (rw (image_tells i e cs u).tag at q)
