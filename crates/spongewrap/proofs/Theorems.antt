-- What the definitions of the calls come to, for every session and every input.
use Prim.Native.Nat.{ℕ, ◌+◌, ◌≤◌}
use native.Mathlib.Omega.{arith}
use mathlib.Core.Path.{◌≡◌, refl, sym, ap, ◌∙◌}
use mathlib.Core.List.{List, [], ◌∷◌, ◌++◌, append_assoc}
use mathlib.Core.Bool.{Bool, true, false, not}
use lib.ListN.{length, take, drop, length-append, length-drop}
use lib.Seq.{take_at, drop_at}
use Rattle.refusal.specs.Rows.{pick, first, by}
use Rattle.refusal.proofs.Rows.{kept}
use Rattle.compare.specs.Same.{same}
use Rattle.compare.proofs.Same.{same_eq, same_is, other_is}
use Rattle.duplex.proofs.RoundTrip.{round_trip}
use Rattle.spongewrap.specs.SpongeWrap.{headed, ciphertext, plaintext}
use Rattle.spongewrap.specs.Refusals.{open_refusal, wrap_refusal, ready_rows, unwrap_refusal, Fits}
use Rattle.spongewrap.specs.Sessions.{none, fresh, opens, next, sealing, tag_of, recovered, Seen, seen, settled, wraps, foreign, unwraps}
use Rattle.spongewrap.specs.Kinds.{Kind}
use Rattle.spongewrap.specs.declared.Session.{Session}
use Rattle.spongewrap.proofs.Passed.{wrap_fits, unwrap_fits, may_unwrap, at_tag, all_but_tag}
use Rattle.spongewrap.proofs.Settle.{settled_refused, settled_accepted, length-sealing, length-tag_of, length_wrapped, length-recovered}

-- ---- any call

-- the session and the output that were handed over
pub record Kept (s : Session) (o : List ℕ) (v : Seen) : Type 0 where
  pub session : v.answer.session ≡ s
  pub out : v.out ≡ o

-- x was written over the first n bytes of o, each later byte keeps its value, and the length is what it was
pub record Written (n : ℕ) (o x v : List ℕ) : Type 0 where
  pub first : take n v ≡ x
  pub rest : drop n v ≡ drop n o
  pub all : length v ≡ length o

over : (n : ℕ) (o x : List ℕ) → length x ≡ n → n ≤ length o → Written n o x (x ++ drop (length x) o)
over n o x e l =
    record {
      first = take_at x (drop (length x) o) n e;
      rest = rw (drop_at x (drop (length x) o) n e, e);
      all = length-append x (drop (length x) o) ∙ omega (arith, length-drop (length x) o);
    }

-- a pair that goes over: its header and body, the output lent to its wrap, and the output lent to its unwrap
pub record Sent : Type 0 where
  pub header : List ℕ
  pub body : List ℕ
  pub out : List ℕ
  pub back : List ℕ

module _ (K : Kind) where
  -- ---- the numbers

  -- An open answers the table's number: the first of 1, 2, 3 whose clause holds, and 0 if none does.
  pub open_number : (key : List ℕ) (R t : ℕ) → (opens K key R t).number ≡ open_refusal K (length key) R t
  unfolding opens
  open_number key R t = refl

  -- A wrap answers the table's number: the first of 1, 3, 7, 4, 5, 6 whose clause holds, and 0 if none does.
  pub wrap_number : (s : Session) (h b o : List ℕ) → (wraps K s h b o).answer.number ≡ wrap_refusal K s (length h) (length b) (length o)
  unfolding wraps settled
  wrap_number s h b o = refl

  -- An unwrap answers the table's number: the first of 1, 3, 7, 4, 5, 6, 8 whose clause holds, and 0 if none does.
  pub unwrap_number : (s : Session) (h c t o : List ℕ)
      → (unwraps K s h c t o).answer.number ≡ unwrap_refusal K s (length h) (length c) (length o) (foreign K s h c t)
  unfolding unwraps settled
  unwrap_number s h c t o = refl

  -- ---- refusals keep everything

  -- A refused open gives the session of zeros.
  pub open_refused : (key : List ℕ) (R t : ℕ) → ((opens K key R t).number ≡ 0 → ⊥) → (opens K key R t).session ≡ none
  unfolding opens
  open_refused key R t d = kept _ none (fresh K R t key) d

  -- A refused wrap gives back the session that it took and leaves every lent byte.
  pub wrap_kept : (s : Session) (h b o : List ℕ) → ((wraps K s h b o).answer.number ≡ 0 → ⊥) → Kept s o (wraps K s h b o)
  unfolding wraps settled
  wrap_kept s h b o d = record { session = kept _ s _ d; out = kept _ o _ d }

  -- A refused unwrap gives back the session that it took and leaves every lent byte.
  pub unwrap_kept : (s : Session) (h c t o : List ℕ) → ((unwraps K s h c t o).answer.number ≡ 0 → ⊥) → Kept s o (unwraps K s h c t o)
  unfolding unwraps settled
  unwrap_kept s h c t o d = record { session = kept _ s _ d; out = kept _ o _ d }

  eight : (s : Session) (o h c t : List ℕ) → (unwraps K s h c t o).answer.number ≡ 8 → unwraps K s h c t o ≡ seen (record { number = 8; session = s }) o
  unfolding unwraps
  eight s o h c t e =
      let n : unwrap_refusal K s (length h) (length c) (length o) (foreign K s h c t) ≡ 8 = sym (unwrap_number s h c t o) ∙ e in
      settled_refused _ s _ o _ (λ z. omega arith) ∙ rw n

  -- All refusals numbered 8 on one session and one lent output are the same, whatever was handed over.
  pub eights_alike : (s : Session) (o h c t h' c' t' : List ℕ) → (unwraps K s h c t o).answer.number ≡ 8 → (unwraps K s h' c' t' o).answer.number ≡ 8
      → unwraps K s h c t o ≡ unwraps K s h' c' t' o
  eights_alike s o h c t h' c' t' e f = eight s o h c t e ∙ sym (eight s o h' c' t' f)

  -- ---- what an accepted call leaves

  -- An accepted wrap, whole.
  pub wrapped_is : (s : Session) (h b o : List ℕ) → (wraps K s h b o).answer.number ≡ 0
      → wraps K s h b o ≡ seen (record { number = 0; session = next K s h b }) ((sealing K s h b ++ tag_of K s h b) ++ drop (length (sealing K s h b ++ tag_of K s h b)) o)
  unfolding wraps
  wrapped_is s h b o e = settled_accepted _ s (next K s h b) o _ (sym (wrap_number s h b o) ∙ e)

  -- An accepted unwrap, whole.
  pub unwrapped_is : (s : Session) (h c t o : List ℕ) → (unwraps K s h c t o).answer.number ≡ 0
      → unwraps K s h c t o ≡ seen (record { number = 0; session = next K s h (recovered K s h c) }) (recovered K s h c ++ drop (length (recovered K s h c)) o)
  unfolding unwraps
  unwrapped_is s h c t o e = settled_accepted _ s (next K s h (recovered K s h c)) o _ (sym (unwrap_number s h c t o) ∙ e)

  -- An accepted wrap writes only the ciphertext and the tag, over the first bytes of the lent output.
  pub wrap_first : (s : Session) (h b o : List ℕ) → (wraps K s h b o).answer.number ≡ 0
      → Written (length b + s.tag) o (sealing K s h b ++ tag_of K s h b) (wraps K s h b o).out
  wrap_first s h b o e =
      let f = wrap_fits K s (length h) (length b) (length o) (sym (wrap_number s h b o) ∙ e) in
      rw (wrapped_is s h b o e) (over (length b + s.tag) o (sealing K s h b ++ tag_of K s h b) (length_wrapped K s h b f.0.rate) f.1)

  -- every test of an unwrap but its tag's is passed
  abbrev pub Ready : Session → List ℕ → List ℕ → List ℕ → Type 0
  Ready s h c o = first (ready_rows K s (length h) (length c) (length o)) ≡ 0

  module _ (s : Session) (h c t o : List ℕ) where
    pub accepted_ready : (unwraps K s h c t o).answer.number ≡ 0 → Ready s h c o
    accepted_ready e = all_but_tag K s (length h) (length c) (length o) (foreign K s h c t) (sym (unwrap_number s h c t o) ∙ e)

    -- An accepted unwrap writes only the body, over the first bytes of the lent output.
    pub unwrap_first : (unwraps K s h c t o).answer.number ≡ 0 → Written (length c) o (recovered K s h c) (unwraps K s h c t o).out
    unwrap_first e =
        let f = unwrap_fits K s (length h) (length c) (length o) (accepted_ready e) in
        rw (unwrapped_is s h c t o e) (over (length c) o (recovered K s h c) (length-recovered K s h c f.0.rate) f.1)

    -- ---- the tag

    tag_number : Ready s h c o → (unwraps K s h c t o).answer.number ≡ pick (not (same t (tag_of K s h (recovered K s h c)))) 8 0
    unfolding foreign
    tag_number r = unwrap_number s h c t o ∙ at_tag K s (length h) (length c) (length o) _ r

    -- Once the other checks pass, an unwrap accepts exactly when the tag equals the recomputed one.
    pub unwrap_accepts_exactly : Ready s h c o
        → ((unwraps K s h c t o).answer.number ≡ 0 → t ≡ tag_of K s h (recovered K s h c)) × (t ≡ tag_of K s h (recovered K s h c) → (unwraps K s h c t o).answer.number ≡ 0)
    unfolding pick
    unwrap_accepts_exactly r = (λ e. go (same t (tag_of K s h (recovered K s h c))) refl (sym (tag_number r) ∙ e), λ e. tag_number r ∙ rw (same_is t _ e))
      where
        go : (b : Bool) → same t (tag_of K s h (recovered K s h c)) ≡ b → pick {A = ℕ} (not b) 8 0 ≡ 0 → t ≡ tag_of K s h (recovered K s h c)
        go true f z = same_eq t _ f
        go false f z = absurd (omega arith)

    -- Once the other checks pass, a wrong tag is refused by 8, the session comes back and no byte is written.
    pub wrong_tag_releases_nothing : Ready s h c o → (t ≡ tag_of K s h (recovered K s h c) → ⊥) → unwraps K s h c t o ≡ seen (record { number = 8; session = s }) o
    unfolding unwraps foreign settled by pick
    wrong_tag_releases_nothing r d =
        rw (at_tag K s (length h) (length c) (length o) (not (same t (tag_of K s h (recovered K s h c)))) r, other_is t (tag_of K s h (recovered K s h c)) d)

  -- ---- what was wrapped comes back

  module _ (s : Session) (h b o : List ℕ) where
    -- what a wrap wrote: the ciphertext and the tag
    abbrev pub text : List ℕ
    text = take (length b) (wraps K s h b o).out

    abbrev pub mark : List ℕ
    mark = take s.tag (drop (length b) (wraps K s h b o).out)

    module _ (e : (wraps K s h b o).answer.number ≡ 0) where
      fine : Fits K s (length h) (length b)
      fine = (wrap_fits K s (length h) (length b) (length o) (sym (wrap_number s h b o) ∙ e)).0

      out_is : (wraps K s h b o).out ≡ sealing K s h b ++ (tag_of K s h b ++ drop (length (sealing K s h b ++ tag_of K s h b)) o)
      out_is = ap (λ (v : Seen). v.out) (wrapped_is s h b o e) ∙ append_assoc (sealing K s h b) (tag_of K s h b) _

      pub text_is : text ≡ sealing K s h b
      text_is = rw out_is (take_at (sealing K s h b) _ (length b) (length-sealing K s h b fine.rate))

      pub mark_is : mark ≡ tag_of K s h b
      mark_is =
          rw (out_is, drop_at (sealing K s h b) (tag_of K s h b ++ drop (length (sealing K s h b ++ tag_of K s h b)) o) (length b) (length-sealing K s h b fine.rate))
          (take_at (tag_of K s h b) _ s.tag (length-tag_of K s h b fine.rate))

      back : recovered K s h text ≡ b
      unfolding recovered plaintext sealing ciphertext
      back = rw text_is (round_trip K.w K.f s.rate (headed K.w K.f s.rate s.lanes h) b fine.rate.room)

      -- Under the same session, what was wrapped comes back exactly, and the next session is the same.
      pub wrap_unwrap : (o' : List ℕ) → length b ≤ length o'
          → unwraps K s h text mark o' ≡ seen (record { number = 0; session = (wraps K s h b o).answer.session }) (b ++ drop (length b) o')
      wrap_unwrap o' l =
          let m : length text ≡ length b = ap length text_is ∙ length-sealing K s h b fine.rate in
          let r : Ready s h text o' = rw m (may_unwrap K s (length h) (length b) (length o) (length o') (sym (wrap_number s h b o) ∙ e) l) in
          unwrapped_is s h text mark o' ((unwrap_accepts_exactly s h text mark o' r).1 (rw (mark_is, back)))
          ∙ rw (back, ap (λ (v : Seen). v.answer.session) (wrapped_is s h b o e))

  -- the session after wrapping the first of some pairs
  abbrev pub sender : Session → Sent → Session
  sender s p = (wraps K s p.header p.body p.out).answer.session

  -- the other end's unwrap of what that wrap wrote, on the session r
  abbrev pub received : Session → Session → Sent → Seen
  received s r p = unwraps K r p.header (text s p.header p.body p.out) (mark s p.header p.body p.out) p.back

  -- all are wrapped in turn from s, none is refused, and there is room for each body at the other end
  unfoldable pub AllSent : Session → List Sent → Type 0
  AllSent s [] = Unit {0}
  AllSent s (p ∷ ps) =
      ((wraps K s p.header p.body p.out).answer.number ≡ 0) × (length p.body ≤ length p.back) × AllSent (sender s p) ps

  -- all are unwrapped in turn from r: each is accepted and gives its body, and both ends have the same session after the last
  unfoldable pub AllBack : Session → Session → List Sent → Type 0
  AllBack s r [] = s ≡ r
  AllBack s r (p ∷ ps) =
      ((received s r p).answer.number ≡ 0) × Written (length p.body) p.back p.body (received s r p).out × AllBack (sender s p) (received s r p).answer.session ps

  -- Whatever list of pairs is wrapped in turn from one session, unwrapping in turn from the same session gives every body back
  -- and ends in the same session.
  pub pairs_come_back : (s : Session) (ps : List Sent) → AllSent s ps → AllBack s s ps
  unfolding AllSent AllBack
  pairs_come_back s [] a = refl
  pairs_come_back s (p ∷ ps) a =
      let e = wrap_unwrap s p.header p.body p.out a.0 p.back a.1 in (
        ap (λ (v : Seen). v.answer.number) e,
        rw e (over (length p.body) p.back p.body refl a.1),
        rw e (pairs_come_back (sender s p) ps a.2),
      )
