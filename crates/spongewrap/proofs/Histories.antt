-- Demand 3: over any mixture of calls from an opened session, count, lanes and outputs are read off the history.
use Prim.Native.Nat.{ℕ, zero, suc, ◌+◌, ◌-◌, ◌*◌, ◌/◌, ◌≤◌, ◌<◌}
use native.Mathlib.Nat.{add-zero, zero-add}
use native.Mathlib.Omega.{arith}
use mathlib.Core.Path.{◌≡◌, refl, sym, ap, ◌∙◌}
use mathlib.Core.List.{List, [], ◌∷◌, ◌++◌, append_assoc, append-nil}
use lib.ListN.{length, take, drop, replicate, length-append, length-replicate, length-take}
use Rattle.refusal.specs.Rows.{by}
use Rattle.refusal.proofs.Rows.{made}
use Rattle.sponge.specs.Pieces.{piece, blocks_of, before}
use Rattle.sponge.specs.Sponge.{zeros, absorb, sponge}
use Rattle.sponge.proofs.Padding.{length-padded}
use Rattle.sponge.proofs.Pieces.{absorb-append}
use Rattle.duplex.specs.Duplex.{framed, state_after}
use Rattle.duplex.specs.Strings.{blocks, front, cut, absorbed}
use Rattle.duplex.proofs.Strings.{length_cut}
use Rattle.duplex.proofs.Seal.{length-sealed}
use Rattle.duplex.proofs.Open.{length-opened}
use Rattle.duplex.proofs.Masks.{sealed_piece, opened_piece}
use Rattle.duplex.proofs.Draw.{after_blocks, drawn_piece}
use Rattle.spongewrap.specs.SpongeWrap.{keyed, headed, bodied, ciphertext, tagged, left, plaintext}
use Rattle.spongewrap.specs.Sessions.{none, fresh, opens, cost, advanced, next, sealing, tag_of, recovered, Seen}
use Rattle.spongewrap.specs.History.{Call, answered, SealedPair, pair_with, pair_of, after_calls, accepted_pairs, blanks, pair_blocks, pairs_blocks, history, pairs_cost, WholeBlocks, output, Output, Tells}
use Rattle.spongewrap.specs.History.Call.{wrapping, unwrapping}
use Rattle.spongewrap.specs.Kinds.{Kind}
use Rattle.spongewrap.specs.declared.Session.{Session}
use Rattle.spongewrap.proofs.Passed.{open_fits, wrap_fits, unwrap_fits}
use Rattle.spongewrap.proofs.Theorems.{open_number, wrap_number, wrap_kept, unwrap_kept, wrapped_is, unwrapped_is, unwrap_first, accepted_ready, unwrap_accepts_exactly, text_is, mark_is}
use Rattle.spongewrap.proofs.Settle.{length-tag_of}

-- ---- SpongeWrap where a plain sponge has absorbed the blocks B

more : (w : ℕ) (f : List ℕ → List ℕ) (B C : List (List ℕ)) → absorb w f (sponge w f B) C ≡ sponge w f (B ++ C)
unfolding sponge
more w f B C = sym (absorb-append w f zeros B C)

after_is : (w : ℕ) (f : List ℕ → List ℕ) (R : ℕ) (B : List (List ℕ)) (n : ℕ)
    → state_after w f R (sponge w f B) n ≡ sponge w f (B ++ replicate (before (R - 1) n) (framed R 0 []))
unfolding sponge
after_is w f R B n = after_blocks w f R zeros B n

module _ (w : ℕ) (f : List ℕ → List ℕ) (R : ℕ) (B : List (List ℕ)) (h : List ℕ) where
  headed_is : headed w f R (sponge w f B) h ≡ sponge w f (B ++ cut R 0 1 h)
  unfolding headed absorbed
  headed_is = more w f B (cut R 0 1 h)

  bodied_is : (b : List ℕ) → bodied w f R (sponge w f B) h b ≡ sponge w f (B ++ cut R 0 1 h ++ cut R 1 0 b)
  unfolding bodied absorbed
  bodied_is b = rw (headed_is, more)

  -- the state that a pair leaves
  left_is : (b : List ℕ) (t : ℕ) → left w f R (sponge w f B) h b t ≡ sponge w f (B ++ (cut R 0 1 h ++ cut R 1 0 b ++ blanks R (blocks R t - 1)))
  unfolding left blanks blocks
  left_is b t =
      let q : suc (before (R - 1) t) - 1 ≡ before (R - 1) t = omega arith in
      ap (λ (a : List ℕ). state_after w f R a t) (bodied_is b)
      ∙ after_is w f R (B ++ cut R 0 1 h ++ cut R 1 0 b) t
      ∙ ap (sponge w f) (rw q (simp append_assoc))

  -- the pieces of a pair's ciphertext and tag
  module _ (b c u : List ℕ) (t : ℕ) (l : R - 1 ≤ 25 * (w / 8)) (v : u ≡ tagged w f R (sponge w f B) h b t) (n : length u ≡ t) where
    tag_pieces : (k : ℕ) → k < blocks R (length u)
        → piece (R - 1) u k ≡ take (length (piece (R - 1) u k)) (output w f (B ++ cut R 0 1 h ++ cut R 1 0 b ++ blanks R k))
    unfolding tagged blanks
    tag_pieces k j = rw (v, ← more, ← bodied_is b) (drawn_piece w f R (bodied w f R (sponge w f B) h b) t k l (rw n at j))

    wrap_output : 1 < R → c ≡ ciphertext w f R (sponge w f B) h b → Output w f R t B (record { header = h; body = b; cipher = c; tag = u })
    unfolding ciphertext
    wrap_output r e =
        record {
          cipher_length = ap length e ∙ length-sealed w f R (headed w f R (sponge w f B) h) b r;
          tag_length = n;
          keystream = λ k j. rw (e, ← more, ← headed_is) (sealed_piece w f R (headed w f R (sponge w f B) h) b k j);
          tag = tag_pieces;
        }

    unwrap_output : 1 < R → b ≡ plaintext w f R (sponge w f B) h c → Output w f R t B (record { header = h; body = b; cipher = c; tag = u })
    unfolding plaintext
    unwrap_output r e =
        let m : length b ≡ length c = ap length e ∙ length-opened w f R (headed w f R (sponge w f B) h) c r in
        record {
          cipher_length = sym m;
          tag_length = n;
          keystream = λ k j. rw (e, ← more, ← headed_is) (opened_piece w f R (headed w f R (sponge w f B) h) c k (rw m at j));
          tag = tag_pieces;
        }

-- ---- how many blocks, and how long

length_pair : (R t : ℕ) (p : SealedPair) → length (pair_blocks R t p) ≡ cost R t (length p.header) (length p.body)
unfolding pair_blocks blanks cost
length_pair R t p =
    length-append (cut R 0 1 p.header ++ cut R 1 0 p.body) (replicate (blocks R t - 1) (framed R 0 []))
    ∙ omega (arith, length-append (cut R 0 1 p.header) (cut R 1 0 p.body), length_cut R 0 1 p.header, length_cut R 1 0 p.body, length-replicate (blocks R t - 1) (framed R 0 []))

length_pairs : (R t : ℕ) (ps : List SealedPair) → length (pairs_blocks R t ps) ≡ pairs_cost R t ps
unfolding pairs_blocks pairs_cost
length_pairs R t [] = refl
length_pairs R t (p ∷ ps) = rw (length-append, length_pair, length_pairs R t ps)

whole_append : (R : ℕ) (A B : List (List ℕ)) → WholeBlocks R A → WholeBlocks R B → WholeBlocks R (A ++ B)
unfolding WholeBlocks
whole_append R [] B u v = v
whole_append R (a ∷ A) B u v = (u.0, whole_append R A B u.1 v)

module _ (R : ℕ) (r : 1 < R) where
  whole_framed : (b : ℕ) (p : List ℕ) → length p ≤ R - 1 → WholeBlocks R (framed R b p ∷ [])
  unfolding WholeBlocks framed
  whole_framed b p l = (length-padded R (2 + b) p (omega arith), tt)

  length-piece : (s : List ℕ) (k : ℕ) → length (piece (R - 1) s k) ≤ R - 1
  unfolding piece
  length-piece s k = omega (arith, length-take (R - 1) (drop (k * (R - 1)) s))

  whole_front : (b : ℕ) (s : List ℕ) (k : ℕ) → WholeBlocks R (front R b s k)
  unfolding front blocks_of
  whole_front b s zero = unfold WholeBlocks in tt
  whole_front b s (suc k) = whole_append R _ _ (whole_front b s k) (whole_framed b (piece (R - 1) s k) (length-piece s k))

  whole_cut : (mid last : ℕ) (s : List ℕ) → WholeBlocks R (cut R mid last s)
  unfolding cut
  whole_cut mid last s = whole_append R _ _ (whole_front mid s _) (whole_framed last _ (length-piece s _))

  whole_blanks : (k : ℕ) → WholeBlocks R (blanks R k)
  unfolding blanks WholeBlocks
  whole_blanks zero = tt
  whole_blanks (suc k) = ((whole_framed 0 [] (omega arith)).0, whole_blanks k)

  whole_pairs : (t : ℕ) (ps : List SealedPair) → WholeBlocks R (pairs_blocks R t ps)
  unfolding pairs_blocks pair_blocks
  whole_pairs t [] = unfold WholeBlocks in tt
  whole_pairs t (p ∷ ps) =
      whole_append R _ _ (whole_append R _ _ (whole_append R _ _ (whole_cut 0 1 p.header) (whole_cut 1 0 p.body)) (whole_blanks _)) (whole_pairs t ps)

module _ (K : Kind) where
  -- ---- a session that stands where the blocks B have been absorbed and n pairs accepted

  record Agrees (R t : ℕ) (B : List (List ℕ)) (n : ℕ) (s : Session) : Type 0 where
    rate : s.rate ≡ R
    tag : s.tag ≡ t
    pairs : s.pairs ≡ n
    calls : s.calls ≡ length B
    lanes : s.lanes ≡ sponge K.w K.f B

  module _ (R t : ℕ) (B : List (List ℕ)) (n : ℕ) (s : Session) (a : Agrees R t B n s) where
    next_agrees : (p : SealedPair) → Agrees R t (B ++ pair_blocks R t p) (n + 1) (next K s p.header p.body)
    unfolding next advanced
    next_agrees p =
        record {
          rate = a.rate;
          tag = a.tag;
          pairs = ap (λ (x : ℕ). x + 1) a.pairs;
          calls = rw (a.rate, a.tag, a.calls, length-append, length_pair);
          lanes = rw (a.rate, a.tag, a.lanes) (unfold pair_blocks in left_is K.w K.f R B p.header p.body t);
        }

    -- a call that is refused, and one that is accepted
    call_kept : (c : Call) → ((answered K s c).answer.number ≡ 0 → ⊥) → (answered K s c).answer.session ≡ s
    unfolding answered
    call_kept (wrapping h b o) d = (wrap_kept K s h b o d).session
    call_kept (unwrapping h c u o) d = (unwrap_kept K s h c u o d).session

    call_agrees : (c : Call) → (answered K s c).answer.number ≡ 0 → Agrees R t (B ++ pair_blocks R t (pair_of K s c)) (n + 1) (answered K s c).answer.session
    unfolding answered pair_with
    call_agrees (wrapping h b o) e = rw (ap (λ (v : Seen). v.answer.session) (wrapped_is K s h b o e)) (next_agrees _)
    call_agrees (unwrapping h c u o) e =
        rw (ap (λ (v : Seen). v.answer.session) (unwrapped_is K s h c u o e), (unwrap_first K s h c u o e).first) (next_agrees _)

    -- the session's strings are those of the sponge
    sealing_is : (h b : List ℕ) → sealing K s h b ≡ ciphertext K.w K.f R (sponge K.w K.f B) h b
    unfolding sealing
    sealing_is h b = rw (a.rate, a.lanes)

    tag_of_is : (h b : List ℕ) → tag_of K s h b ≡ tagged K.w K.f R (sponge K.w K.f B) h b t
    unfolding tag_of
    tag_of_is h b = rw (a.rate, a.lanes, a.tag)

    recovered_is : (h c : List ℕ) → recovered K s h c ≡ plaintext K.w K.f R (sponge K.w K.f B) h c
    unfolding recovered
    recovered_is h c = rw (a.rate, a.lanes)

    call_output : (c : Call) → (answered K s c).answer.number ≡ 0 → Output K.w K.f R t B (pair_of K s c)
    unfolding answered pair_with
    call_output (wrapping h b o) e =
        let r = (wrap_fits K s (length h) (length b) (length o) (sym (wrap_number K s h b o) ∙ e)).0.rate in
        wrap_output K.w K.f R B h b _ _ t (omega (arith, a.rate, r.most)) (mark_is K s h b o e ∙ tag_of_is h b)
        (ap length (mark_is K s h b o e) ∙ length-tag_of K s h b r ∙ a.tag) (omega (arith, a.rate, r.room)) (text_is K s h b o e ∙ sealing_is h b)
    call_output (unwrapping h c u o) e =
        let y = accepted_ready K s h c u o e in
        let r = (unwrap_fits K s (length h) (length c) (length o) y).0.rate in
        let v = (unwrap_accepts_exactly K s h c u o y).0 e in
        rw (unwrap_first K s h c u o e).first
        (unwrap_output K.w K.f R B h (recovered K s h c) c u t (omega (arith, a.rate, r.most)) (v ∙ tag_of_is h (recovered K s h c))
        (ap length v ∙ length-tag_of K s h (recovered K s h c) r ∙ a.tag) (omega (arith, a.rate, r.room)) (recovered_is h c))

  -- ---- a run of calls

  -- each pair's output, at its point
  Outputs : ℕ → ℕ → List (List ℕ) → List SealedPair → Type 0
  Outputs R t B [] = Unit {0}
  Outputs R t B (p ∷ ps) = Output K.w K.f R t B p × Outputs R t (B ++ pair_blocks R t p) ps

  -- what holds where the pairs ps have been accepted since, and the session is s
  abbrev Ran : ℕ → ℕ → List (List ℕ) → ℕ → List SealedPair → Session → Type 0
  Ran R t B n ps s = Agrees R t (B ++ pairs_blocks R t ps) (n + length ps) s × Outputs R t B ps

  run : (R t : ℕ) (B : List (List ℕ)) (n : ℕ) (s : Session) → Agrees R t B n s → (cs : List Call) → Ran R t B n (accepted_pairs K s cs) (after_calls K s cs)
  unfolding accepted_pairs by after_calls pairs_blocks Outputs
  run R t B n s a [] = (rw (append-nil, add-zero) a, tt)
  run R t B n s a (c ∷ cs) = go (λ C m. λ g. run R t C m s' g cs) (answered K s c).answer.number refl
    where
      s' : Session
      s' = (answered K s c).answer.session

      go : ((C : List (List ℕ)) (m : ℕ) → Agrees R t C m s' → Ran R t C m (accepted_pairs K s' cs) (after_calls K s' cs))
          → (m : ℕ) → (answered K s c).answer.number ≡ m → Ran R t B n (by m [] (pair_of K s c ∷ []) ++ accepted_pairs K s' cs) (after_calls K s' cs)
      go on zero e =
          let i = on (B ++ pair_blocks R t (pair_of K s c)) (n + 1) (call_agrees R t B n s a c e) in
          let k : n + suc (length (accepted_pairs K s' cs)) ≡ n + 1 + length (accepted_pairs K s' cs) = omega arith in
          (rw (← append_assoc, k) i.0, (call_output R t B n s a c e, i.1))
      go on (suc m) e = on B n (rw (call_kept R t B n s a c (λ z. omega arith)) a)

  -- the pair p among others
  among : (R t : ℕ) (B : List (List ℕ)) (before rest : List SealedPair) (p : SealedPair) → Outputs R t B (before ++ p ∷ rest) → Output K.w K.f R t (B ++ pairs_blocks R t before) p
  unfolding Outputs pairs_blocks
  among R t B [] rest p o = rw append-nil o.0
  among R t B (q ∷ before) rest p o = rw (← append_assoc) (among R t (B ++ pair_blocks R t q) before rest p o.1)

  opened_agrees : (key : List ℕ) (R t : ℕ) → (opens K key R t).number ≡ 0 → Agrees R t (cut R 1 0 key) 0 (opens K key R t).session
  unfolding opens keyed absorbed sponge
  opened_agrees key R t e =
      rw (made _ none (fresh K R t key) e)
      (record { rate = refl; tag = refl; pairs = refl; calls = sym (length_cut R 1 0 key); lanes = refl })

  -- Demand 3. Whatever calls are made from an opened session, each given the session that the last one handed back: its count is the
  -- blocks of the key and of each accepted header and body and the extra blocks of tags; exactly that many padded blocks, read off the
  -- history and absorbed by one plain sponge, leave its lanes; and every keystream piece and tag piece is that sponge's output at its point.
  pub history_tells : (key : List ℕ) (R t : ℕ) (cs : List Call) → (opens K key R t).number ≡ 0
      → Tells K R t key (accepted_pairs K (opens K key R t).session cs) (after_calls K (opens K key R t).session cs)
  unfolding history
  history_tells key R t cs e =
      let s = (opens K key R t).session in
      let ps = accepted_pairs K s cs in
      let a = run R t (cut R 1 0 key) 0 s (opened_agrees key R t e) cs in
      let r = (open_fits K (length key) R t (sym (open_number K key R t) ∙ e)).rates in
      let n : length (history R t key ps) ≡ blocks R (length key) + pairs_cost R t ps =
      length-append (cut R 1 0 key) (pairs_blocks R t ps) ∙ rw (length_cut, length_pairs) in
      record {
        rate = a.0.rate;
        tag = a.0.tag;
        pairs = a.0.pairs ∙ zero-add (length ps);
        count = a.0.calls ∙ n;
        blocks_number = sym a.0.calls;
        blocks_whole = whole_append R _ _ (whole_cut R r.room 1 0 key) (whole_pairs R r.room t ps);
        state = a.0.lanes;
        outputs = λ before rest p q. among R t (cut R 1 0 key) before rest p (rw q at a.1);
      }
