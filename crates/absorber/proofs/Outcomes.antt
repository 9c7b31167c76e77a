-- Any two outcomes that a public contract (`Post`) allows of one call are equal: of the plain state, and of an absorber at any rate R.
use mathlib.Core.Path.{◌≡◌, sym, ◌∙◌}
use Prim.Native.Nat.{ℕ}
use contract.Lifetimes.{Lfts}
use Rattle.absorber.proofs.Absorbing.fresh.Reads as plain_fresh
use Rattle.absorber.proofs.Absorbing.absorbed.Reads as plain_absorbed
use Rattle.absorber.proofs.Absorbing.filled.Reads as plain_filled
use Rattle.absorber.proofs.Absorbing.ended.Reads as plain_ended
use Rattle.absorber.proofs.Absorber.fresh.Reads as fresh
use Rattle.absorber.proofs.Absorber.absorbed.Reads as absorbed
use Rattle.absorber.proofs.Absorber.filled.Reads as filled
use Rattle.absorber.proofs.Absorber.ended.Reads as ended

pub plain_fresh_outcome : (κs : Lfts 0) (a x y s t : _) → plain_fresh.Post κs a x s → plain_fresh.Post κs a y t → x ≡ y
plain_fresh_outcome κs a x y s t e h = e ∙ sym h

pub plain_absorbed_outcome : (κs : Lfts 1) (a x y s t : _) → plain_absorbed.Post κs a x s → plain_absorbed.Post κs a y t → x ≡ y
plain_absorbed_outcome κs a x y s t e h = e.is ∙ sym h.is

pub plain_filled_outcome : (κs : Lfts 0) (a x y s t : _) → plain_filled.Post κs a x s → plain_filled.Post κs a y t → x ≡ y
plain_filled_outcome κs a x y s t e h = e.0.is ∙ sym h.0.is

pub plain_ended_outcome : (κs : Lfts 0) (a x y s t : _) → plain_ended.Post κs a x s → plain_ended.Post κs a y t → x ≡ y
plain_ended_outcome κs a x y s t e h = e ∙ sym h

module _ (R : ℕ) (fits : _) where
  pub fresh_outcome : (κs : Lfts 1) (a x y s t : _) → fresh.Post R fits κs a x s → fresh.Post R fits κs a y t → x ≡ y
  fresh_outcome κs a x y s t e h = e ∙ sym h

  pub absorbed_outcome : (κs : Lfts 3) (a x y s t : _) → absorbed.Post R fits κs a x s → absorbed.Post R fits κs a y t → x ≡ y
  absorbed_outcome κs a x y s t e h = e.is ∙ sym h.is

  pub filled_outcome : (κs : Lfts 2) (a x y s t : _) → filled.Post R fits κs a x s → filled.Post R fits κs a y t → x ≡ y
  filled_outcome κs a x y s t e h = e.0.is ∙ sym h.0.is

  pub ended_outcome : (κs : Lfts 2) (a x y s t : _) → ended.Post R fits κs a x s → ended.Post R fits κs a y t → x ≡ y
  ended_outcome κs a x y s t e h = e ∙ sym h
