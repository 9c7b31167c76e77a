-- What answers say: a number, a place and values (document 01, "Refusal numbers" and "Bundle, version 1").
use Rattle.std.specs.Prelude.{ℕ, List, [], ◌∷◌, Bool, not, eqb, get_or, Result, Ok, Err}
use Rattle.spongewrap.specs.Desk.{desk}
use Rattle.refusal.specs.Rows.{first, by}
use Rattle.refusal.specs.Numbers.{number_of}
use Rattle.spongewrap.specs.Refusals.{rows_of}
use Rattle.spongewrap.specs.declared.Session.{Session}
use Rattle.bundle.specs.declared.Entry.{Entry}
use Rattle.bundle.specs.declared.NoEntry.{NoEntry}
use Rattle.bundle.specs.declared.Fault.{Fault}
use Rattle.bundle.specs.declared.Opened.{Opened}
use Rattle.bundle.specs.declared.Refused.{Refused}
use Rattle.bundle.specs.Format.{Version, bundle_rate}

-- the number, 0 if accepted; the place, 0 unless said; and what else an accepted call answers
pub record Told : Type 0 where
  pub number : ℕ
  pub place : ℕ
  pub values : List ℕ

abbrev pub refused : ℕ → ℕ → Told
refused number place = record { number = number; place = place; values = [] }

abbrev pub accepted : List ℕ → Told
accepted values = record { number = 0; place = 0; values = values }

-- ---- tables of refusals: the first that refuses, else what stands last

infixr 10 ◌or_else◌
abbrev pub ◌or_else◌ : Told → Told → Told
t or_else rest = by t.number t rest

-- rows whose refusals carry one place
abbrev pub placed : ℕ → List (Bool × ℕ) → Told
placed place rows = refused (first rows) place

-- a session's own rows, with the bundle's rate and tag length: 1, 3, 7
abbrev pub own : Version → Session → List (Bool × ℕ)
own v s = rows_of desk.ceiling s (not (eqb s.rate bundle_rate)) (not (eqb s.tag v.tag))

-- ---- the answers that are enums

-- a refusal by its number
abbrev pub fault_told : Fault → Told
fault_told f = refused (number_of f.refusal) f.place

-- an entry at a place; whatever the cause that none is whole, it is malformed
abbrev pub entry_told : Result Entry NoEntry → ℕ → Told
entry_told (Ok e) place = accepted (e.header ∷ e.body ∷ e.next ∷ [])
entry_told (Err cause) place = refused 9 place

-- a survey
abbrev pub survey_told : Result ℕ Fault → Told
survey_told (Ok n) = accepted (n ∷ [])
survey_told (Err f) = fault_told f

-- the checks of an add
abbrev pub check_told : Result ℕ Fault → Told
check_told (Ok place) = accepted []
check_told (Err f) = fault_told f

-- ---- the calls that hand a session back

-- a number and its place, the place of the entry after one that opened, and a session; where there is no such place it is 0
pub record Reply : Type 0 where
  pub number : ℕ
  pub place : ℕ
  pub next : ℕ
  pub session : Session

-- the replies that their results are
abbrev pub refused_reply : Refused → Reply
refused_reply r = record { number = number_of r.fault.refusal; place = r.fault.place; next = 0; session = r.session }

abbrev pub opened_reply : Result Opened Refused → Reply
opened_reply (Ok o) = record { number = 0; place = 0; next = o.next; session = o.session }
opened_reply (Err r) = refused_reply r

abbrev pub session_reply : Result Session Refused → Reply
session_reply (Ok s) = record { number = 0; place = 0; next = 0; session = s }
session_reply (Err r) = refused_reply r

-- what is seen of one: its answer, and the lent buffer as it is left
pub record Seen : Type 0 where
  pub answer : Reply
  pub buffer : List ℕ

abbrev pub seen : Reply → List ℕ → Seen
seen a d = record { answer = a; buffer = d }

-- by its table: a refusal keeps the session s and the buffer d; else they are s' and d', and the next place is what it answers
abbrev pub settled_at : Told → Session → List ℕ → Session → List ℕ → Seen
settled_at t s d s' d' = seen (record { number = t.number; place = t.place; next = get_or t.values 0 0; session = by t.number s s' }) (by t.number d d')
