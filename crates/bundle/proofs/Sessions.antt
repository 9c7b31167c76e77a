-- The bundle and the session's own calls: what an opening accepts an unwrap accepts, what a start or an add accepts a wrap accepts. So the
-- session of a bundle, at either end, is one that a history leads to, and demand 3 speaks of it.
use Prim.Native.Nat.{ℕ, ◌+◌, ◌≤◌}
use native.Mathlib.Omega.{arith}
use mathlib.Core.Path.{◌≡◌, refl, sym, ap, ◌∙◌}
use mathlib.Core.List.{List, [], ◌∷◌, map}
use lib.ListN.{length, get_or, replicate, length-replicate}
use borrow.Author.Tests.{le-ltb}
use mir.Val.{Fits}
use mir.Syntax.{w8}
use Rattle.std.specs.Prelude.{Result, Ok, Err}
use Rattle.refusal.specs.Rows.{first, by}
use Rattle.refusal.proofs.Rows.{clear_first}
use Rattle.compare.proofs.Same.{same_is}
use Rattle.spongewrap.specs.Desk.{desk}
use Rattle.spongewrap.specs.Sessions.{next, tag_of, opens, wraps, foreign, Seen as Called}
use Rattle.spongewrap.specs.History.{Call, content, after_calls, answered, accepted_pairs, pair_with, Tells}
use Rattle.spongewrap.specs.History.Call.{wrapping}
use Rattle.spongewrap.specs.declared.Session.{Session}
use Rattle.spongewrap.proofs.Theorems.{wrapped_is}
use Rattle.spongewrap.proofs.Histories.{history_tells}
use Rattle.bundle.specs.declared.Entry.{Entry}
use Rattle.bundle.specs.declared.NoEntry.{NoEntry}
use Rattle.bundle.specs.Format.{Version, bundle_rate, body_length, header_at, tag_at, entry_at}
use Rattle.bundle.specs.Answers.{Told, own, ◌or_else◌, entry_told, Seen}
use Rattle.bundle.specs.Opening.{last_rows, open_table, body_at, unwraps_at, opens_entry}
use Rattle.bundle.specs.Writing.{Ready, starts}
use Rattle.bundle.specs.Contents.{Pair, labelled, after_pairs}
use Rattle.bundle.proofs.Tables.{through}
use Rattle.bundle.proofs.Entries.{whole_at}
use Rattle.bundle.proofs.Contents.{adds_all, AllAdded, Sealed}
use Rattle.bundle.proofs.Openings.{open_told, open_is}
use Rattle.bundle.proofs.Stores.{seals}
use Rattle.bundle.proofs.Written.{all_holds}
use Rattle.bundle.proofs.Theorems.{opened_tag}

-- ---- an opening

-- what an accepted opening has passed: the session's own rows, and the rules of a whole entry
pub record PastChecks (v : Version) (s : Session) (b : List ℕ) (place : ℕ) : Type 0 where
  pub entry : Entry
  pub own_rows_lem : first (own v s) ≡ 0
  pub whole : entry_at v b place ≡ Ok entry

is_whole : (v : Version) (s : Session) (b : List ℕ) (place : ℕ) (x : Result Entry NoEntry) (q : Told) → entry_at v b place ≡ x → first (own v s) ≡ 0
    → (entry_told x place or_else q).number ≡ 0 → PastChecks v s b place
unfolding by
is_whole v s b place (Ok e) q w r z = record { entry = e; own_rows_lem = r; whole = w }
is_whole v s b place (Err x) q w r z = absurd (omega arith)

module _ (v : Version) (s : Session) (b : List ℕ) (place : ℕ) (o : List ℕ) where
  pub open_passed : (opens_entry v s b place o).answer.number ≡ 0 → PastChecks v s b place
  unfolding opens_entry open_table
  open_passed e = let p = through (first (own v s)) place _ e in is_whole v s b place (entry_at v b place) _ refl p.0 p.1

  module _ (p : PastChecks v s b place) where
    told : (opens_entry v s b place o).answer.number ≡ first (last_rows v s b place (length o))
    told = ap (λ (u : Seen). u.answer.number) (open_told v s b place o p.entry p.own_rows_lem p.whole)

    -- Past the other checks, an opening is accepted if and only if the entry's tag is the one recomputed over its header and body.
    pub open_accepts_exactly : p.entry.body ≤ length o
        → ((opens_entry v s b place o).answer.number ≡ 0 → tag_at v b place ≡ tag_of desk s (header_at b place) (body_at s b place))
        × (tag_at v b place ≡ tag_of desk s (header_at b place) (body_at s b place) → (opens_entry v s b place o).answer.number ≡ 0)
    unfolding foreign body_at
    open_accepts_exactly l =
        let w = whole_at v b place p.entry p.whole in
        (opened_tag v s b place o, λ e. told ∙ clear_first (last_rows v s b place (length o)) (le-ltb (length o) (body_length b place) (omega (arith, w.is_body)), (rw (same_is _ _ e), tt)))

    -- What an opening answers and leaves is what an unwrap of the entry's parts does; the place of the next entry comes with it.
    pub opening_is_unwrap : ((i : ℕ) → Fits w8 (get_or b i 0))
        → ((opens_entry v s b place o).answer.number ≡ (unwraps_at v s b place o).answer.number)
        × ((opens_entry v s b place o).answer.session ≡ (unwraps_at v s b place o).answer.session)
        × ((opens_entry v s b place o).buffer ≡ (unwraps_at v s b place o).out)
    opening_is_unwrap h =
        let u = unwraps_at v s b place o in
        let e = open_is v s b place o p.entry p.own_rows_lem p.whole h u.answer u.out refl in
        (sym (ap (λ (x : Seen). x.answer.number) e), sym (ap (λ (x : Seen). x.answer.session) e), sym (ap (λ (x : Seen). x.buffer) e))

-- ---- a bundle's pairs as calls of a session

-- each pair wrapped in its turn, into an output of just its size
unfoldable pub seal_calls : Version → List Pair → List Call
seal_calls v [] = []
seal_calls v (p ∷ ps) = wrapping p.header p.body (replicate (length p.body + v.tag) 0) ∷ seal_calls v ps

sealed_into : (v : Version) (s : Session) (h b : List ℕ) → Ready v s (length h) (length b) → (wraps desk s h b (replicate (length b + v.tag) 0)).answer.number ≡ 0
sealed_into v s h b r =
    let n : ℕ = length b + v.tag in
    seals v s h b (replicate n 0) (length h) r r.header_fits (omega (arith, length-replicate {A = ℕ} n 0))

-- what the calls lead to, and which headers and bodies they have accepted
pub sealed_history : (v : Version) (s : Session) (xs : List Pair) → Sealed v s xs
    → (after_calls desk s (seal_calls v xs) ≡ after_pairs s xs) × (map content (accepted_pairs desk s (seal_calls v xs)) ≡ map (λ p. (p.header, p.body)) xs)
unfolding Sealed seal_calls after_calls after_pairs accepted_pairs answered pair_with by
sealed_history v s [] r = (refl, refl)
sealed_history v s (x ∷ xs) r =
    let e = sealed_into v s x.header x.body r.0 in
    let n = ap (λ (u : Called). u.answer.session) (wrapped_is desk s x.header x.body _ e) in
    let i = sealed_history v (next desk s x.header x.body) xs r.1 in
    let a = ap (λ (t : Session). accepted_pairs desk t (seal_calls v xs)) n in
    (ap (λ (t : Session). after_calls desk t (seal_calls v xs)) n ∙ i.0, rw (e, a) (ap (λ (l : List (List ℕ × List ℕ)). (x.header, x.body) ∷ l) i.1))

module _ (v : Version) (key label d : List ℕ) (ps : List Pair) (e : (opens desk key bundle_rate v.tag).number ≡ 0) where
  abbrev begun : Session
  begun = (opens desk key bundle_rate v.tag).session

  -- Demand 3 of a bundle: the session that a start and some adds leave, none of them refused, is that of a history whose headers and
  -- bodies are the label and the pairs in order; count, lanes, ciphertexts and tags are read off it.
  pub bundle_tells : (all : AllAdded v (starts v begun label d) ps)
      → Tells desk bundle_rate v.tag key (accepted_pairs desk begun (seal_calls v (labelled label ∷ ps))) (adds_all v (starts v begun label d) ps).answer.session
      × (map content (accepted_pairs desk begun (seal_calls v (labelled label ∷ ps))) ≡ map (λ p. (p.header, p.body)) (labelled label ∷ ps))
  bundle_tells all =
      let k = all_holds v begun label d ps all in
      let q = sealed_history v begun (labelled label ∷ ps) k.sealed in
      (rw (k.session, ← q.0) (history_tells desk key bundle_rate v.tag (seal_calls v (labelled label ∷ ps)) e), q.1)
