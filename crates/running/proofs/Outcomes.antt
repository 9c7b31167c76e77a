-- Any two outcomes that a contract (`Post`) here allows of one call are equal: answers, the session that is left, and what the lent output holds.
use mathlib.Core.Path.{◌≡◌, sym, ap, ◌∙◌}
use mathlib.Core.List.{List}
use Prim.Native.Nat.{ℕ}
use contract.Lifetimes.{Lfts}
use Rattle.std.specs.Prelude.{Result}
use Rattle.refusal.specs.declared.Refusal.{Refusal}
use Rattle.refusal.proofs.Numbers.{told_alike}
use Rattle.spongewrap.specs.Sessions.{Answer, seen}
use Rattle.spongewrap.specs.declared.Session.{Session}
use Rattle.spongewrap.proofs.Outcomes.{parts, seen_alike}
use Rattle.running.specs.Answers.{left}
use Rattle.running.proofs.wrap_in_place.Reads as wrap_in_place
use Rattle.running.proofs.unwrap_in_place.Reads as unwrap_in_place
use Rattle.running.proofs.wrap_lent.Reads as wrap_lent
use Rattle.running.proofs.unwrap_lent.Reads as unwrap_lent

-- what is seen of a call in place says its answer, its session and its output
left_alike : (x y : Result Unit Refusal) (s t : Session) (o u : List ℕ) → seen (left x s) o ≡ seen (left y t) u → (x ≡ y) × (s ≡ t) × (o ≡ u)
left_alike x y s t o u e =
    let p = parts (left x s) (left y t) o u e in
    (told_alike x y (ap (λ (a : Answer). a.number) p.0), ap (λ (a : Answer). a.session) p.0, p.1)

pub wrap_in_place_outcome : (κs : Lfts 4) (a x y s t : _) → wrap_in_place.Post κs a x s → wrap_in_place.Post κs a y t
    → (x ≡ y) × (s.0.now ≡ t.0.now) × (s.1.1.1.0.now ≡ t.1.1.1.0.now)
wrap_in_place_outcome κs a x y s t e h = left_alike x y _ _ _ _ (e ∙ sym h)

pub unwrap_in_place_outcome : (κs : Lfts 5) (a x y s t : _) → unwrap_in_place.Post κs a x s → unwrap_in_place.Post κs a y t
    → (x ≡ y) × (s.0.now ≡ t.0.now) × (s.1.1.1.1.0.now ≡ t.1.1.1.1.0.now)
unwrap_in_place_outcome κs a x y s t e h = left_alike x y _ _ _ _ (e ∙ sym h)

pub wrap_lent_outcome : (κs : Lfts 3) (a x y s t : _) → wrap_lent.Post κs a x s → wrap_lent.Post κs a y t
    → (x ≡ y) × (s.1.1.1.0.now ≡ t.1.1.1.0.now)
wrap_lent_outcome κs a x y s t e h = seen_alike x y _ _ (e ∙ sym h)

pub unwrap_lent_outcome : (κs : Lfts 4) (a x y s t : _) → unwrap_lent.Post κs a x s → unwrap_lent.Post κs a y t
    → (x ≡ y) × (s.1.1.1.1.0.now ≡ t.1.1.1.1.0.now)
unwrap_lent_outcome κs a x y s t e h = seen_alike x y _ _ (e ∙ sym h)
