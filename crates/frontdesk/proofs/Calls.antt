-- What the desk's functions answer, from what their calls ensure.
use Prim.Native.Nat.{ℕ, suc, ◌+◌, ◌-◌, ◌<◌, ◌≤◌}
use native.Mathlib.Omega.{arith}
use mathlib.Core.Path.{◌≡◌, sym, ap, ◌∙◌}
use mathlib.Core.List.{List, []}
use lib.ListN.{length, take, drop}
use Rattle.refusal.specs.Rows.{by}
use Rattle.refusal.specs.Numbers.{number_of}
use Rattle.refusal.proofs.Numbers.{numbered_refusal}
use Rattle.refusal.proofs.Rows.{kept, made}
use Rattle.std.specs.Prelude.{Ok, Err, Option, Some, None}
use Rattle.spongewrap.specs.Desk.{desk}
use Rattle.spongewrap.specs.Sessions.{Answer, wraps, unwraps, Seen, seen}
use Rattle.spongewrap.specs.declared.Session.{Session}
use Rattle.bundle.specs.declared.Entry.{Entry}
use Rattle.bundle.specs.declared.NoEntry.{NoEntry}
use Rattle.bundle.specs.declared.Fault.{Fault}
use Rattle.bundle.specs.declared.Opened.{Opened}
use Rattle.bundle.specs.declared.Refused.{Refused}
use Rattle.bundle.specs.Answers.{Told, Reply, survey_told, opened_reply}
use Rattle.bundle.specs.Format.{version1, header_length, entry_at}
use Rattle.bundle.proofs.Entries.{whole_at}
use Rattle.frontdesk.specs.Day.{dots, bundle_session, surveyed, whole_header, opens_at, opens_from, opens_labelled, opens_bundle, sealed_pair, opens_pair}

-- ---- a survey

pub survey_counted : {t : Told} (n : ℕ) → survey_told (Ok n) ≡ t → Some n ≡ surveyed t
unfolding by
survey_counted n e = rw (← e)

pub survey_refused : {t : Told} (f : Fault) → survey_told (Err f) ≡ t → None ≡ surveyed t
survey_refused f e = rw (← e) (sym (kept {A = Option ℕ} (number_of f.refusal) None _ (numbered_refusal f.refusal)))

-- ---- the header of an entry

pub header_none : (b : List ℕ) (place : ℕ) (cause : NoEntry) → Err cause ≡ entry_at version1 b place → [] ≡ whole_header b place
unfolding whole_header by
header_none b place cause f = rw (← f)

pub header_whole : (b : List ℕ) (place : ℕ) (e : Entry) → Ok e ≡ entry_at version1 b place
    → take (e.next - 16 - e.body - (e.next - 16 - e.body - e.header)) (drop (e.next - 16 - e.body - e.header) b) ≡ whole_header b place
unfolding whole_header by
header_whole b place e f =
    let w = whole_at version1 b place e (sym f) in
    let start : e.next - 16 - e.body - e.header ≡ place + 6 = omega arith in
    let long : e.next - 16 - e.body - (place + 6) ≡ header_length b place = omega arith in
    rw (← f, start, long)

-- ---- entry after entry

module _ (s t : Session) (b : List ℕ) (place k n : ℕ) {a : Reply} (e : a ≡ opens_at s b place) (more : k < n) (so_far : opens_from (n - k) s b place ≡ t) where
  -- by what is found of the entry at hand
  ahead : by a.number a.session (opens_from (n - (k + 1)) a.session b a.next) ≡ t
  unfolding opens_from
  ahead = let left : n - k ≡ suc (n - (k + 1)) = omega arith in rw e (rw left at so_far)

  pub turn_stops : (a.number ≡ 0 → ⊥) → a.session ≡ t
  turn_stops w = sym (kept a.number a.session (opens_from (n - (k + 1)) a.session b a.next) w) ∙ ahead

  pub turn_goes : a.number ≡ 0 → opens_from (n - (k + 1)) a.session b a.next ≡ t
  turn_goes z = sym (made a.number a.session (opens_from (n - (k + 1)) a.session b a.next) z) ∙ ahead

pub turn_last : (s t : Session) (b : List ℕ) (place k n : ℕ) → opens_from (n - k) s b place ≡ t → n ≤ k → s ≡ t
unfolding opens_from
turn_last s t b place k n e l = let none : n - k ≡ 0 = omega arith in rw none at e

-- entry zero, and its label
module _ (key label b : List ℕ) (n : ℕ) (s : Session) (es : s ≡ bundle_session key) where
  pub zero_stops : (r : Refused) → opened_reply (Err r) ≡ opens_at s b 5 → r.session ≡ opens_bundle key label b n
  unfolding opens_bundle
  zero_stops r e = rw (← es, ← e) (sym (kept {A = Session} (number_of r.fault.refusal) r.session _ (numbered_refusal r.fault.refusal)))

  pub zero_opens : (zero : Opened) {r : Session} → opened_reply (Ok zero) ≡ opens_at s b 5 → r ≡ opens_labelled zero label b n → r ≡ opens_bundle key label b n
  unfolding opens_bundle by
  zero_opens zero e er = rw (← es, ← e) er

-- ---- a pair outside a bundle

pub pair_opened : (s : Session) (h o x : List ℕ) (n e : ℕ) {a : Answer} → e ≡ n + 16 → seen a x ≡ unwraps desk s h (take n o) (take (e - n) (drop n o)) dots
    → a.session ≡ opens_pair s h n o
unfolding opens_pair
pair_opened s h o x n e f g =
    let z : e - n ≡ 16 = omega arith in
    ap (λ (u : Seen). u.answer.session) (rw z at g)

pub pair_sealed : (s : Session) (h b o : List ℕ) (a : Answer) → seen a o ≡ wraps desk s h b dots → a.session ≡ (wraps desk s h b dots).answer.session
pair_sealed s h b o a e = ap (λ (u : Seen). u.answer.session) e

pub pair_passed : (from to : Session) (h b o : List ℕ) (a : Answer) {r : Session} → seen a o ≡ wraps desk from h b dots → r ≡ opens_pair to h (length b) o
    → r ≡ opens_pair to h (length b) (sealed_pair from h b)
unfolding sealed_pair
pair_passed from to h b o a e f = rw (sealed_pair, ← e) f
