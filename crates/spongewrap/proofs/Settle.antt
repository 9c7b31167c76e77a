-- Calls that are refused and accepted, as the definitions have them: each law's premises are what the code's steps ensure.
use Prim.Native.Nat.{ℕ, ◌+◌}
use native.Mathlib.Omega.{arith}
use mathlib.Core.Path.{◌≡◌, refl, sym, ◌∙◌}
use mathlib.Core.List.{List, ◌++◌}
use mathlib.Core.Bool.{Bool, true, false, not}
use lib.ListN.{length, drop, length-append}
use Rattle.std.specs.Prelude.{Option, Some, None}
use Rattle.std.specs.Bool.{then_some}
use Rattle.refusal.specs.Rows.{pick, first, by}
use Rattle.refusal.proofs.Rows.{kept}
use Rattle.compare.specs.Same.{same}
use Rattle.duplex.specs.Duplex.{Rate, drawn, state_after}
use Rattle.duplex.specs.Strings.{absorbed, sealed, opened}
use Rattle.duplex.proofs.Seal.{length-sealed}
use Rattle.duplex.proofs.Open.{length-opened}
use Rattle.duplex.proofs.Draw.{length-drawn}
use Rattle.spongewrap.specs.SpongeWrap.{headed, bodied, ciphertext, tagged, left, plaintext}
use Rattle.spongewrap.specs.Refusals.{open_refusal, wrap_refusal, ready_rows, unwrap_refusal}
use Rattle.spongewrap.specs.Sessions.{fresh, none, opens, advanced, next, sealing, tag_of, recovered, seen, settled, wraps, foreign, unwraps}
use Rattle.spongewrap.specs.Kinds.{Kind}
use Rattle.spongewrap.specs.declared.Session.{Session}
use Rattle.spongewrap.proofs.Passed.{wrap_fits, unwrap_fits, before_tag, at_tag}

-- ---- what a test let through

was_found : {A : Type 0} (t : Bool) (x l : A) → Some l ≡ then_some t x → (t ≡ true) × (l ≡ x)
was_found true x l e = (refl, cc)
was_found false x l e = cc

not_found : {A : Type 0} (t : Bool) (x : A) → None ≡ then_some t x → t ≡ false
not_found true x e = cc
not_found false x e = refl

-- ---- any call

module _ (n : ℕ) (s s' : Session) (o x : List ℕ) where
  pub settled_refused : (n ≡ 0 → ⊥) → settled n s o s' x ≡ seen (record { number = n; session = s }) o
  unfolding settled
  settled_refused d = rw (kept n s s' d, kept n o (x ++ drop (length x) o) d)

  pub settled_accepted : n ≡ 0 → settled n s o s' x ≡ seen (record { number = 0; session = s' }) (x ++ drop (length x) o)
  unfolding settled by
  settled_accepted e = rw e

module _ (K : Kind) where
  -- ---- open

  module _ (key : List ℕ) (R t n : ℕ) (s : Session) (e : n ≡ open_refusal K (length key) R t) where
    pub opens_refused : (n ≡ 0 → ⊥) → s ≡ none → (record { number = n; session = s }) ≡ opens K key R t
    unfolding opens
    opens_refused d q = rw (q, ← e, kept n none (fresh K R t key) d)

    pub opens_taken : n ≡ 0 → s ≡ fresh K R t key → (record { number = 0; session = s }) ≡ opens K key R t
    unfolding opens by
    opens_taken d q = rw (← e, d, q)

  -- ---- wrap

  pub length-sealing : (s : Session) (h b : List ℕ) → Rate K.w s.rate → length (sealing K s h b) ≡ length b
  unfolding sealing ciphertext
  length-sealing s h b r = length-sealed K.w K.f s.rate (headed K.w K.f s.rate s.lanes h) b r.room

  pub length-tag_of : (s : Session) (h b : List ℕ) → Rate K.w s.rate → length (tag_of K s h b) ≡ s.tag
  unfolding tag_of tagged
  length-tag_of s h b r = length-drawn K.w K.f s.rate (bodied K.w K.f s.rate s.lanes h b) s.tag r.room (omega arith)

  pub length_wrapped : (s : Session) (h b : List ℕ) → Rate K.w s.rate → length (sealing K s h b ++ tag_of K s h b) ≡ length b + s.tag
  length_wrapped s h b r = rw (length-append, length-sealing s h b r, length-tag_of s h b r)

  -- a pair sealed from the state a that its header left
  module _ (s : Session) (h b a : List ℕ) (p : a ≡ headed K.w K.f s.rate s.lanes h) where
    pub next_is : (t : Session) (l : List ℕ) → l ≡ state_after K.w K.f s.rate (absorbed K.w K.f s.rate a 1 0 b) s.tag
        → t ≡ advanced s l (length h) (length b) → t ≡ next K s h b
    unfolding next left bodied
    next_is t l q u = rw (u, q, p)

    pub sealed_is : (o o' : List ℕ)
        → o' ≡ (sealed K.w K.f s.rate a b ++ drawn K.w K.f s.rate (absorbed K.w K.f s.rate a 1 0 b) s.tag) ++ drop (length b + s.tag) o
        → o' ≡ (sealing K s h b ++ tag_of K s h b) ++ drop (length b + s.tag) o
    unfolding sealing ciphertext tag_of tagged bodied
    sealed_is o o' x = rw (x, p)

  module _ (s : Session) (h b o : List ℕ) (n : ℕ) (e : n ≡ wrap_refusal K s (length h) (length b) (length o)) where
    pub wraps_refused : (n ≡ 0 → ⊥) → seen (record { number = n; session = s }) o ≡ wraps K s h b o
    unfolding wraps
    wraps_refused d = rw (← e) (sym (settled_refused n s (next K s h b) o _ d))

    pub wraps_taken : n ≡ 0 → (t : Session) (o' : List ℕ) → t ≡ next K s h b → o' ≡ (sealing K s h b ++ tag_of K s h b) ++ drop (length b + s.tag) o
        → seen (record { number = 0; session = t }) o' ≡ wraps K s h b o
    unfolding wraps
    wraps_taken d t o' u x =
        let f = length_wrapped s h b (wrap_fits K s (length h) (length b) (length o) (sym e ∙ d)).0.rate in
        rw (← e, x, u, ← f) (sym (settled_accepted n s (next K s h b) o (sealing K s h b ++ tag_of K s h b) d))

  -- ---- unwrap

  pub length-recovered : (s : Session) (h c : List ℕ) → Rate K.w s.rate → length (recovered K s h c) ≡ length c
  unfolding recovered plaintext
  length-recovered s h c r = length-opened K.w K.f s.rate (headed K.w K.f s.rate s.lanes h) c r.room

  module _ (s : Session) (h c t o : List ℕ) where
    pub unwraps_refused : (n : ℕ) → n ≡ first (ready_rows K s (length h) (length c) (length o)) → (n ≡ 0 → ⊥) → seen (record { number = n; session = s }) o ≡ unwraps K s h c t o
    unfolding unwraps
    unwraps_refused n e d =
        rw (← before_tag K s (length h) (length c) (length o) (foreign K s h c t) n e d)
        (sym (settled_refused n s (next K s h (recovered K s h c)) o (recovered K s h c) d))

    -- a is the state that the header left, and `found` what the look at the tag came to
    module _ (ready : first (ready_rows K s (length h) (length c) (length o)) ≡ 0) (a : List ℕ) (found : Option (List ℕ)) (p : a ≡ headed K.w K.f s.rate s.lanes h)
        (k : found ≡ then_some (same t (drawn K.w K.f s.rate (absorbed K.w K.f s.rate a 1 0 (opened K.w K.f s.rate a c)) s.tag))
        (state_after K.w K.f s.rate (absorbed K.w K.f s.rate a 1 0 (opened K.w K.f s.rate a c)) s.tag)) where
      number : unwrap_refusal K s (length h) (length c) (length o) (foreign K s h c t)
          ≡ pick (not (same t (drawn K.w K.f s.rate (absorbed K.w K.f s.rate a 1 0 (opened K.w K.f s.rate a c)) s.tag))) 8 0
      unfolding foreign tag_of tagged bodied recovered plaintext
      number = rw p (at_tag K s (length h) (length c) (length o) (foreign K s h c t) ready)

      pub unwraps_other : found ≡ None → seen (record { number = 8; session = s }) o ≡ unwraps K s h c t o
      unfolding unwraps pick settled by
      unwraps_other f = rw (number, not_found _ _ (sym f ∙ k))

      pub unwraps_taken : (l : List ℕ) → found ≡ Some l → (s' : Session) (o' : List ℕ) → s' ≡ advanced s l (length h) (length c)
          → o' ≡ opened K.w K.f s.rate a c ++ drop (length c) o → seen (record { number = 0; session = s' }) o' ≡ unwraps K s h c t o
      unfolding unwraps pick settled by next left bodied recovered plaintext
      unwraps_taken l f s' o' u x =
          let m = length-recovered s h c (unwrap_fits K s (length h) (length c) (length o) ready).0.rate in
          let q = was_found _ _ l (sym f ∙ k) in
          rw (number, q.0, x, u, q.1, p, m)
