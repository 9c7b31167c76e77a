-- Any two outcomes that a public contract (`Post`) allows of one call are equal: answers, and what the lent output holds.
use mathlib.Core.Path.{◌≡◌, sym, ap, ◌∙◌}
use mathlib.Core.List.{List}
use Prim.Native.Nat.{ℕ}
use contract.Lifetimes.{Lfts}
use Rattle.std.specs.Prelude.{Result, Ok, Err}
use Rattle.refusal.specs.declared.Refusal.{Refusal}
use Rattle.refusal.proofs.Numbers.{told_alike, number_alike, numbered_refusal}
use Rattle.spongewrap.specs.Sessions.{Answer, answer_of, Seen, seen}
use Rattle.spongewrap.specs.declared.Session.{Session}
use Rattle.spongewrap.specs.declared.Refused.{Refused}
use Rattle.spongewrap.proofs.Session.open.Reads as default
use Rattle.spongewrap.proofs.open.Reads as opening
use Rattle.spongewrap.proofs.wrap.Reads as wrap
use Rattle.spongewrap.proofs.unwrap.Reads as unwrap
use Rattle.spongewrap.proofs.orders.of_open.Reads as of_open
use Rattle.spongewrap.proofs.orders.of_session.Reads as of_session
use Rattle.spongewrap.proofs.orders.of_wrap.Reads as of_wrap
use Rattle.spongewrap.proofs.orders.of_unwrap.Reads as of_unwrap
use Rattle.spongewrap.proofs.orders.of_settings.Reads as of_settings
use Rattle.spongewrap.proofs.orders.of_own.Reads as of_own
use Rattle.spongewrap.proofs.orders.of_parts.Reads as of_parts
use Rattle.spongewrap.proofs.orders.of_pair.Reads as of_pair
use Rattle.spongewrap.proofs.orders.is_full.Reads as is_full

-- what is seen says both its parts
pub parts : (r r' : Answer) (o o' : List ℕ) → seen r o ≡ seen r' o' → (r ≡ r') × (o ≡ o')
parts r r' o o' e = (ap (λ (v : Seen). v.answer) e, ap (λ (v : Seen). v.out) e)

refused_alike : (r q : Refused) → r.refusal ≡ q.refusal → r.session ≡ q.session → ◌≡◌ {A = Result Session Refused} (Err r) (Err q)
refused_alike r q e f = ap Err (ap (λ (x : Refusal). record { refusal = x; session = r.session }) e ∙ ap (λ (x : Session). record { refusal = q.refusal; session = x }) f)

-- an answer says which result it is: only a refusal has a number other than 0, and each its own
pub answer_alike : (x y : Result Session Refused) → answer_of x ≡ answer_of y → x ≡ y
answer_alike (Ok s) (Ok t) e = ap Ok (ap (λ (a : Answer). a.session) e)
answer_alike (Ok s) (Err q) e = absurd (numbered_refusal q.refusal (sym (ap (λ (a : Answer). a.number) e)))
answer_alike (Err r) (Ok t) e = absurd (numbered_refusal r.refusal (ap (λ (a : Answer). a.number) e))
answer_alike (Err r) (Err q) e =
    refused_alike r q (number_alike r.refusal q.refusal (ap (λ (a : Answer). a.number) e)) (ap (λ (a : Answer). a.session) e)

pub seen_alike : (x y : Result Session Refused) (o u : List ℕ) → seen (answer_of x) o ≡ seen (answer_of y) u → (x ≡ y) × (o ≡ u)
seen_alike x y o u e = let p = parts (answer_of x) (answer_of y) o u e in (answer_alike x y p.0, p.1)

pub default_open_outcome : (κs : Lfts 1) (a x y s t : _) → default.Post κs a x s → default.Post κs a y t → x ≡ y
default_open_outcome κs a x y s t e h = answer_alike x y (e ∙ sym h)

pub open_outcome : (κs : Lfts 1) (a x y s t : _) → opening.Post κs a x s → opening.Post κs a y t → x ≡ y
open_outcome κs a x y s t e h = answer_alike x y (e ∙ sym h)

pub wrap_outcome : (κs : Lfts 3) (a x y s t : _) → wrap.Post κs a x s → wrap.Post κs a y t
    → (x ≡ y) × (s.1.1.1.0.now ≡ t.1.1.1.0.now)
wrap_outcome κs a x y s t e h = seen_alike x y _ _ (e ∙ sym h)

pub unwrap_outcome : (κs : Lfts 4) (a x y s t : _) → unwrap.Post κs a x s → unwrap.Post κs a y t
    → (x ≡ y) × (s.1.1.1.1.0.now ≡ t.1.1.1.1.0.now)
unwrap_outcome κs a x y s t e h = seen_alike x y _ _ (e ∙ sym h)

-- ---- the refusals' numbers

pub of_open_outcome : (κs : Lfts 0) (a x y s t : _) → of_open.Post κs a x s → of_open.Post κs a y t → x ≡ y
of_open_outcome κs a x y s t e h = told_alike x y (e ∙ sym h)

pub of_session_outcome : (κs : Lfts 0) (a x y s t : _) → of_session.Post κs a x s → of_session.Post κs a y t → x ≡ y
of_session_outcome κs a x y s t e h = told_alike x y (e ∙ sym h)

pub of_wrap_outcome : (κs : Lfts 0) (a x y s t : _) → of_wrap.Post κs a x s → of_wrap.Post κs a y t → x ≡ y
of_wrap_outcome κs a x y s t e h = told_alike x y (e ∙ sym h)

pub of_unwrap_outcome : (κs : Lfts 0) (a x y s t : _) → of_unwrap.Post κs a x s → of_unwrap.Post κs a y t → x ≡ y
of_unwrap_outcome κs a x y s t e h = told_alike x y (e ∙ sym h)

pub of_settings_outcome : (κs : Lfts 0) (a x y s t : _) → of_settings.Post κs a x s → of_settings.Post κs a y t → x ≡ y
of_settings_outcome κs a x y s t e h = told_alike x y (e ∙ sym h)

pub of_own_outcome : (κs : Lfts 0) (a x y s t : _) → of_own.Post κs a x s → of_own.Post κs a y t → x ≡ y
of_own_outcome κs a x y s t e h = told_alike x y (e ∙ sym h)

pub of_parts_outcome : (κs : Lfts 0) (a x y s t : _) → of_parts.Post κs a x s → of_parts.Post κs a y t → x ≡ y
of_parts_outcome κs a x y s t e h = told_alike x y (e ∙ sym h)

pub of_pair_outcome : (κs : Lfts 0) (a x y s t : _) → of_pair.Post κs a x s → of_pair.Post κs a y t → x ≡ y
of_pair_outcome κs a x y s t e h = e ∙ sym h

pub is_full_outcome : (κs : Lfts 0) (a x y s t : _) → is_full.Post κs a x s → is_full.Post κs a y t → x ≡ y
is_full_outcome κs a x y s t e h = e ∙ sym h
