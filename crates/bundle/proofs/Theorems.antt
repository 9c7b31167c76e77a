-- What the definitions of the calls come to, for every session and every input.
use Prim.Native.Nat.{ℕ, zero, suc, ◌+◌, ◌-◌, ◌≤◌, ◌<◌}
use native.Mathlib.Omega.{arith}
use mathlib.Core.Path.{◌≡◌, refl, sym, ap, ◌∙◌}
use mathlib.Core.List.{List, [], ◌∷◌, ◌++◌}
use mathlib.Core.Logic.{◌⊎◌, ⊎_elim}
use mathlib.Core.Bool.{false}
use lib.ListN.{length, get_or, take, drop, length-append}
use lib.Seq.{sets, take_at}
use borrow.Author.Tests.{not-false}
use Rattle.std.specs.Prelude.{Result, Ok, Err}
use Rattle.fields.specs.Numbers.{bytes_of}
use Rattle.fields.proofs.Stores.{get_d_sets_before, get_or-sets_after}
use Rattle.fields.proofs.Numbers.{length-bytes_of}
use Rattle.spongewrap.specs.Desk.{desk}
use Rattle.refusal.specs.Rows.{by, first}
use Rattle.spongewrap.specs.Sessions.{next, tag_of, foreign}
use Rattle.spongewrap.specs.declared.Session.{Session}
use Rattle.compare.proofs.Same.{same_eq}
use Rattle.refusal.proofs.Rows.{kept, all_clear}
use Rattle.bundle.specs.declared.Entry.{Entry}
use Rattle.bundle.specs.declared.NoEntry.{NoEntry}
use Rattle.bundle.specs.Format.{Version, entry_of, header_at, tag_at, next_at, entry_at}
use Rattle.bundle.specs.Answers.{Told, refused, accepted, own, ◌or_else◌, entry_told, Seen, seen, settled_at}
use Rattle.bundle.specs.Survey.{unlabelled, entries_from, surveys}
use Rattle.bundle.specs.Opening.{last_rows, open_table, body_at, opens_entry}
use Rattle.bundle.specs.Writing.{start_table, starts, end_of, end_with, add_table, with_entry, adds}
use Rattle.bundle.specs.Contents.{Pair, labelled, after_pairs, entries_of, bundle_with}
use Rattle.bundle.proofs.Tables.{through}
use Rattle.bundle.proofs.Entries.{entry_whole, last_good, survey_walks}
use Rattle.bundle.proofs.Contents.{number_in, length-entry, stands, adds_all, AllAdded, OpensAll, Sealed, opens_all, walk_all}
use Rattle.bundle.proofs.Stores.{start_accepted, add_accepted, adds_is}
use Rattle.bundle.proofs.Written.{Holds, ends, number_first, all_holds}

-- ---- what a table tells

-- the session and the buffer that were handed over
pub record Kept (s : Session) (d : List ℕ) (u : Seen) : Type 0 where
  pub session : u.answer.session ≡ s
  pub buffer : u.buffer ≡ d

settled_kept : (t : Told) (s s' : Session) (d d' : List ℕ) → (t.number ≡ 0 → ⊥) → Kept s d (settled_at t s d s' d')
settled_kept t s s' d d' w = record { session = kept t.number s s' w; buffer = kept t.number d d' w }

-- a table that refuses does so at p, and answers no value
abbrev At : ℕ → Told → Type 0
At p t = (t.number ≡ 0 → ⊥) → t ≡ refused t.number p

at_place : (m p : ℕ) (q : Told) → At p q → At p (by m (refused m p) q)
unfolding by
at_place zero p q f w = f w
at_place (suc m) p q f w = refl

at_entry : (e : Result Entry NoEntry) (p : ℕ) (q : Told) → At p q → At p (entry_told e p or_else q)
unfolding by
at_entry (Ok e) p q f w = f w
at_entry (Err x) p q f w = refl

past_entry : (e : Result Entry NoEntry) (p : ℕ) (q : Told) → (entry_told e p or_else q).number ≡ 0 → q.number ≡ 0
unfolding by
past_entry (Ok e) p q z = z
past_entry (Err x) p q z = absurd (omega arith)

module _ (v : Version) (s : Session) where
  -- ---- refusals keep everything

  -- A refused start gives back the session that it took and leaves every byte of the buffer.
  pub start_kept : (label d : List ℕ) → ((starts v s label d).answer.number ≡ 0 → ⊥) → Kept s d (starts v s label d)
  unfolding starts
  start_kept label d w = settled_kept (start_table v s (length label) (length d)) s _ d _ w

  -- A refused add gives back the session that it took and leaves every byte of the buffer.
  pub add_kept : (h b d : List ℕ) → ((adds v s h b d).answer.number ≡ 0 → ⊥) → Kept s d (adds v s h b d)
  unfolding adds
  add_kept h b d w = settled_kept (add_table v s d (length h) (length b)) s _ d _ w

  open_at : (b : List ℕ) (place out : ℕ) → At place (open_table v s b place out)
  unfolding open_table
  open_at b place out =
      at_place (first (own v s)) place _ (at_entry (entry_at v b place) place _ (at_place _ place _ (λ z. absurd (z refl))))

  -- A refused opening gives back the session that it took and leaves every byte of the output; it carries the place that was asked
  -- for, and no next one.
  pub open_refused : (b : List ℕ) (place : ℕ) (o : List ℕ) → ((opens_entry v s b place o).answer.number ≡ 0 → ⊥)
      → opens_entry v s b place o ≡ seen (record { number = (opens_entry v s b place o).answer.number; place = place; next = 0; session = s }) o
  unfolding opens_entry
  open_refused b place o w =
      let e = open_at b place (length o) w in
      let k = settled_kept (open_table v s b place (length o)) s (next desk s (header_at b place) (body_at s b place)) o (body_at s b place ++ drop (length (body_at s b place)) o) w in
      rw (k.session, k.buffer, ap (λ (u : Told). u.place) e, ap (λ (u : Told). get_or u.values 0 0) e)

  -- All refusals numbered 8 at one place are the same, whatever bundle was handed over and whichever byte differs.
  pub eights_alike : (place : ℕ) (o b b' : List ℕ) → (opens_entry v s b place o).answer.number ≡ 8 → (opens_entry v s b' place o).answer.number ≡ 8
      → opens_entry v s b place o ≡ opens_entry v s b' place o
  eights_alike place o b b' e f = open_refused b place o (λ z. omega arith) ∙ rw (e, ← f) (sym (open_refused b' place o (λ z. omega arith)))

  -- ---- the tag of an entry

  -- An entry that opens has the tag that is recomputed over its very header and body, in the session that all earlier pairs left.
  pub opened_tag : (b : List ℕ) (place : ℕ) (o : List ℕ) → (opens_entry v s b place o).answer.number ≡ 0
      → tag_at v b place ≡ tag_of desk s (header_at b place) (body_at s b place)
  unfolding opens_entry open_table body_at foreign
  opened_tag b place o e =
      let p = through (first (own v s)) place _ e in
      let q = through _ place (accepted (next_at v b place ∷ [])) (past_entry (entry_at v b place) place _ p.1) in
      let c = all_clear (last_rows v s b place (length o)) refl q.0 in
      same_eq _ _ (not-false _ c.1.0)

  -- ---- what an add leaves

  -- An accepted add writes the stated length and the new entry: all other bytes stand.
  pub others_stand : (h b d : List ℕ) (i : ℕ) → (adds v s h b d).answer.number ≡ 0
      → (i < 1) ⊎ ((5 ≤ i) × (i < end_of d)) ⊎ (end_with v d (length h) (length b) ≤ i) → get_or (adds v s h b d).buffer i 0 ≡ get_or d i 0
  unfolding with_entry
  others_stand h b d i e w =
      let a = add_accepted v s h b d e in
      let n : ℕ = end_with v d (length h) (length b) - 5 in
      let l = length-bytes_of 4 n in
      let m = length-entry v s h b a.ready in
      let x : List ℕ = sets d (end_of d) (entry_of s h b) in
      rw (adds_is v s h b d a)
      (⊎_elim
      (λ (y : i < 1). get_d_sets_before (bytes_of 4 n) x 1 i 0 y ∙ get_d_sets_before (entry_of s h b) d (end_of d) i 0 (omega arith))
      (⊎_elim
      (λ (y : (5 ≤ i) × (i < end_of d)). get_or-sets_after (bytes_of 4 n) x 1 i 0 (omega arith) ∙ get_d_sets_before (entry_of s h b) d (end_of d) i 0 y.1)
      (λ (y : end_with v d (length h) (length b) ≤ i). get_or-sets_after (bytes_of 4 n) x 1 i 0 (omega arith) ∙ get_or-sets_after (entry_of s h b) d (end_of d) i 0 (omega arith)))
      w)

-- ---- a bundle that was started, and added to pair by pair

module _ (v : Version) (s : Session) (label d : List ℕ) (ps : List Pair) (all : AllAdded v (starts v s label d) ps) where
  -- the last call as it was seen; the bundle is the buffer up to its stated end
  abbrev pub final : Seen
  final = adds_all v (starts v s label d) ps

  abbrev pub written : List ℕ
  written = take (end_of final.buffer) final.buffer

  holds : Holds v s (labelled label ∷ ps) final.answer.session final.buffer
  holds = all_holds v s label d ps all

  -- The bundle is the entries of all pairs in order, with the label's in front, and the session is the one after them.
  pub written_is : (written ≡ bundle_with v s (labelled label ∷ ps)) × (final.answer.session ≡ after_pairs s (labelled label ∷ ps))
  written_is =
      (ap (λ (d : List ℕ). take (end_of final.buffer) d) holds.held ∙ take_at (bundle_with v s (labelled label ∷ ps)) holds.rest (end_of final.buffer) (sym (ends v s (labelled label ∷ ps) final.answer.session final.buffer holds)), holds.session)

  abbrev front : List ℕ
  front = v.number ∷ bytes_of 4 (length (entries_of s (labelled label ∷ ps)))

  length_front : length front ≡ 5
  length_front = omega (arith, length-bytes_of 4 (length (entries_of s (labelled label ∷ ps))))

  as_parts : bundle_with v s (labelled label ∷ ps) ≡ front ++ entries_of s (labelled label ∷ ps)
  unfolding bundle_with
  as_parts = refl

  -- Opened entry by entry from the session that it was started from, it gives back every header under its own body, in order.
  pub opens_written : OpensAll v s written 5 (labelled label ∷ ps)
  opens_written = rw (written_is.0, as_parts, ← length_front) (opens_all v s (labelled label ∷ ps) front holds.sealed)

  entry_zero : false ≡ unlabelled (entry_at v (front ++ entries_of s (labelled label ∷ ps)) 5)
  unfolding entries_of Sealed unlabelled
  entry_zero =
      rw (← length_front, ← entry_whole (stands v s label [] holds.sealed.0 front (entries_of (next desk s label []) ps)))
      (sym (start_accepted v s label d (number_first v s (starts v s label d) ps all)).label)

  walked : accepted (suc (length ps) ∷ []) ≡ entries_from v (front ++ entries_of s (labelled label ∷ ps)) 5 0
  walked =
      let e : 0 + length (labelled label ∷ ps) ≡ suc (length ps) = omega arith in
      last_good v (front ++ entries_of s (labelled label ∷ ps)) (suc (length ps)) _ false refl entry_zero refl
      ∙ rw (← e, ← length_front) (sym (walk_all v s (labelled label ∷ ps) front 0 holds.sealed (omega (arith, holds.few))))

  -- Its survey accepts it, with the number of its entries.
  pub survey_written : surveys v written ≡ accepted (suc (length ps) ∷ [])
  survey_written =
      let xs = labelled label ∷ ps in
      let b : List ℕ = front ++ entries_of s xs in
      let n : ℕ = length (entries_of s xs) in
      let l : length b ≡ 5 + n = omega (arith, length-append front (entries_of s xs), length_front) in
      rw (written_is.0, as_parts)
      (survey_walks v b (omega arith) (omega (arith, holds.bytes)) refl (number_in 4 n b (v.number ∷ []) (entries_of s xs) 1 refl refl (omega (arith, holds.bytes)) ∙ omega arith) ∙ sym walked)
