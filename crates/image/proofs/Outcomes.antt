-- Any two outcomes that a contract (`Post`) allows of one call are equal: number, image, and what the lent output holds.
use mathlib.Core.Path.{◌≡◌, sym, ap, ◌∙◌}
use mathlib.Core.List.{List}
use Prim.Native.Nat.{ℕ}
use contract.Lifetimes.{Lfts}
use Rattle.std.specs.Prelude.{Result}
use Rattle.refusal.specs.Numbers.{told}
use Rattle.refusal.specs.declared.Refusal.{Refusal}
use Rattle.refusal.proofs.Numbers.{told_alike}
use Rattle.image.specs.Calls.{Seen, seen}
use Rattle.image.proofs.open.Reads as opening
use Rattle.image.proofs.wrap.Reads as wrap
use Rattle.image.proofs.unwrap.Reads as unwrap

-- what is seen of a call of C says its parts
pub parts : (n m : ℕ) (i j o u : List ℕ) → seen n i o ≡ seen m j u → (n ≡ m) × (i ≡ j) × (o ≡ u)
parts n m i j o u e = (ap (λ (s : Seen). s.number) e, ap (λ (s : Seen). s.image) e, ap (λ (s : Seen). s.out) e)

-- and of a call that answers a refusal or none
told_parts : (x y : Result Unit Refusal) (i j o u : List ℕ) → seen (told x) i o ≡ seen (told y) j u → (x ≡ y) × (i ≡ j) × (o ≡ u)
told_parts x y i j o u e = let p = parts (told x) (told y) i j o u e in (told_alike x y p.0, p.1, p.2)

pub open_outcome : (κs : Lfts 2) (a x y s t : _) → opening.Post κs a x s → opening.Post κs a y t
    → (x ≡ y) × (s.1.1.1.0.now ≡ t.1.1.1.0.now)
open_outcome κs a x y s t e h = let p = told_parts x y _ _ _ _ (e ∙ sym h) in (p.0, p.1)

pub wrap_outcome : (κs : Lfts 4) (a x y s t : _) → wrap.Post κs a x s → wrap.Post κs a y t
    → (x ≡ y) × (s.0.now ≡ t.0.now) × (s.1.1.1.0.now ≡ t.1.1.1.0.now)
wrap_outcome κs a x y s t e h = told_parts x y _ _ _ _ (e ∙ sym h)

pub unwrap_outcome : (κs : Lfts 5) (a x y s t : _) → unwrap.Post κs a x s → unwrap.Post κs a y t
    → (x ≡ y) × (s.0.now ≡ t.0.now) × (s.1.1.1.1.0.now ≡ t.1.1.1.1.0.now)
unwrap_outcome κs a x y s t e h = told_parts x y _ _ _ _ (e ∙ sym h)
