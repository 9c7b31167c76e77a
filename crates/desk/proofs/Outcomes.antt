-- Any two outcomes that a contract of the C surface (`Post`) allows of one call are equal: number, image, and what the lent output holds.
use mathlib.Core.Path.{◌≡◌, sym, ap, ◌∙◌}
use contract.Lifetimes.{Lfts}
use Rattle.image.proofs.Outcomes.{parts}
use Rattle.desk.specs.Desk.{Hashed}
use Rattle.desk.proofs.feefledown_open.Reads as opening
use Rattle.desk.proofs.feefledown_wrap.Reads as wrap
use Rattle.desk.proofs.feefledown_unwrap.Reads as unwrap
use Rattle.desk.proofs.feefledown_sha3_256.Reads as digest

pub open_outcome : (κs : Lfts 2) (a x y s t : _) → opening.Post κs a x s → opening.Post κs a y t
    → (x ≡ y) × (s.1.0.now ≡ t.1.0.now)
open_outcome κs a x y s t e h = let p = parts x y _ _ _ _ (e ∙ sym h) in (p.0, p.1)

pub wrap_outcome : (κs : Lfts 4) (a x y s t : _) → wrap.Post κs a x s → wrap.Post κs a y t
    → (x ≡ y) × (s.0.now ≡ t.0.now) × (s.1.1.1.0.now ≡ t.1.1.1.0.now)
wrap_outcome κs a x y s t e h = parts x y _ _ _ _ (e ∙ sym h)

pub unwrap_outcome : (κs : Lfts 5) (a x y s t : _) → unwrap.Post κs a x s → unwrap.Post κs a y t
    → (x ≡ y) × (s.0.now ≡ t.0.now) × (s.1.1.1.1.0.now ≡ t.1.1.1.1.0.now)
unwrap_outcome κs a x y s t e h = parts x y _ _ _ _ (e ∙ sym h)

pub digest_outcome : (κs : Lfts 2) (a x y s t : _) → digest.Post κs a x s → digest.Post κs a y t
    → (x ≡ y) × (s.1.0.now ≡ t.1.0.now)
digest_outcome κs a x y s t e h = (ap (λ (v : Hashed). v.number) (e ∙ sym h), ap (λ (v : Hashed). v.out) (e ∙ sym h))
