-- The entry rules, and the walk over entries, check by check.
use Prim.Native.Nat.{ℕ, zero, suc, ◌+◌, ◌-◌, ◌≤◌, ◌<◌}
use native.Mathlib.Omega.{arith}
use mathlib.Core.Path.{◌≡◌, refl, sym, ap, ◌∙◌}
use mathlib.Core.List.{List, [], ◌∷◌}
use mathlib.Core.Bool.{Bool, true, false}
use lib.ListN.{length, get_or}
use lib.Dec.{ltb}
use borrow.Author.Tests.{lt-ltb, le-ltb, ltb-false, eq-eqb, ne_eqb}
use Rattle.std.specs.Prelude.{Result, Ok, Err}
use Rattle.fields.specs.Numbers.{number_at}
use Rattle.refusal.specs.Rows.{by, pick}
use Rattle.spongewrap.specs.Refusals.{most_pairs, most_body, long_body}
use Rattle.bundle.specs.declared.Entry.{Entry}
use Rattle.bundle.specs.declared.NoEntry.{NoEntry}
use Rattle.bundle.specs.declared.NoEntry.TheVariants.{Short, Large, Past}
use Rattle.bundle.specs.Format.{Version, most, header_length, body_length, next_at, WholeAt, entry_at}
use Rattle.bundle.specs.Answers.{Told, refused, accepted, ◌or_else◌, entry_told}
use Rattle.bundle.specs.Survey.{unlabelled, last, walk_entries, entries_from, surveys}
use Rattle.refusal.proofs.Rows.{taken, passed}
use Rattle.bundle.proofs.Tables.{stops_at, goes_on}

-- ---- the rules

pub entry_whole : {v : Version} {b : List ℕ} {place : ℕ} {e : Entry} → WholeAt v b place e → Ok e ≡ entry_at v b place
unfolding entry_at pick
entry_whole {v} {b} {place} {e} w =
    let parts : ◌≡◌ {A = Entry} (record { header = e.header; body = e.body; next = e.next }) (record { header = header_length b place; body = body_length b place; next = next_at v b place }) = cc in
    rw (le-ltb (length b - place) 6 (omega arith), le-ltb most_body (body_length b place) (omega arith), le-ltb (length b) (next_at v b place) (omega arith)) (ap Ok parts)

-- what a whole entry tells
unless : (t : Bool) (x : NoEntry) (r : Result Entry NoEntry) (e : Entry) → pick t (Err x) r ≡ Ok e → (t ≡ false) × (r ≡ Ok e)
unfolding pick
unless false x r e q = (refl, q)
unless true x r e q = cc

pub whole_at : (v : Version) (b : List ℕ) (place : ℕ) (e : Entry) → entry_at v b place ≡ Ok e → WholeAt v b place e
unfolding entry_at
whole_at v b place e q =
    let p = unless (ltb (length b - place) 6) Short _ e q in
    let q = unless (long_body (body_length b place)) Large _ e p.1 in
    let r = unless (ltb (length b) (next_at v b place)) Past _ e q.1 in
    let parts : (record { header = header_length b place; body = body_length b place; next = next_at v b place }) ≡ e = cc in
    let l : body_length b place ≤ most_body = ltb-false most_body (body_length b place) q.0 in
    let x : next_at v b place ≤ length b = ltb-false (length b) (next_at v b place) r.0 in
    rw (← parts) (record { is_header = refl; is_body = refl; is_next = refl; small = l; ends = x })

-- where none is whole
pub entry_bad : (x : NoEntry) (r : Result Entry NoEntry) (place : ℕ) (t q : Told) → Err x ≡ r → t ≡ entry_told (Err x) place → t ≡ (entry_told r place or_else q)
unfolding by
entry_bad x r place t q e f = rw (← e) f

-- ---- the walk: at the end; at entry 65,535; at an entry

module _ (v : Version) (b : List ℕ) (place k : ℕ) where
  pub walk_end : length b ≤ place → entries_from v b place k ≡ last v b k
  unfolding entries_from walk_entries pick
  walk_end h = ended (most_pairs - k)
    where
      ended : (n : ℕ) → walk_entries v n b place k ≡ last v b k
      ended zero = rw (le-ltb place (length b) h)
      ended (suc n) = rw (le-ltb place (length b) h)

  module _ (some : place < length b) where
    pub walk_full : k ≡ most_pairs → entries_from v b place k ≡ refused 7 place
    unfolding entries_from walk_entries pick
    walk_full e = rw (e, lt-ltb place (length b) some)

    pub walk_on : k < most_pairs → entries_from v b place k ≡ (entry_told (entry_at v b place) place or_else entries_from v b (next_at v b place) (k + 1))
    unfolding entries_from walk_entries pick
    walk_on l =
        let n : most_pairs - k ≡ suc (most_pairs - (k + 1)) = omega arith in
        rw (n, lt-ltb place (length b) some)

    pub walk_bad : k < most_pairs → (x : NoEntry) (t : Told) → Err x ≡ entry_at v b place → t ≡ entry_told (Err x) place → t ≡ entries_from v b place k
    walk_bad l x t e f = entry_bad x _ place t _ e f ∙ sym (walk_on l)

    pub walk_next : k < most_pairs → (e : Entry) → entry_at v b place ≡ Ok e → entries_from v b place k ≡ entries_from v b e.next (k + 1)
    unfolding by
    walk_next l e q = walk_on l ∙ rw (q, (whole_at v b place e q).is_next)

-- ---- the last check, by what was found of entry zero

module _ (v : Version) (b : List ℕ) (k : ℕ) (e : Result Entry NoEntry) (t : Bool) (g : e ≡ entry_at v b 5) (u : t ≡ unlabelled e) where
  pub last_bad : t ≡ true → refused 11 5 ≡ last v b k
  unfolding last
  last_bad h = let z : unlabelled (entry_at v b 5) ≡ true = cc in stops_at 11 5 _ (taken 11 0 z) refl

  pub last_good : t ≡ false → accepted (k ∷ []) ≡ last v b k
  unfolding last
  last_good h = let z : unlabelled (entry_at v b 5) ≡ false = cc in goes_on 5 (passed 11 z refl) refl

pub ruleset walk_rules = (whole_at, walk_end, walk_full, walk_bad, walk_next, last_bad, last_good)

-- ---- the survey, past its first rows

pub survey_walks : (v : Version) (b : List ℕ) → 5 ≤ length b → length b ≤ most → get_or b 0 0 ≡ v.number → number_at 4 b 1 ≡ length b - 5
    → surveys v b ≡ entries_from v b 5 0
unfolding surveys by pick
survey_walks v b head fits one stated =
    rw (ne_eqb (length b) 0 (λ z. omega arith), le-ltb most (length b) fits, eq-eqb _ _ one, le-ltb (length b) 5 head, eq-eqb _ _ stated)
