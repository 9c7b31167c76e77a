-- Any two outcomes that the public contract (`Post`) allows of one call are equal.
use mathlib.Core.Path.{◌≡◌, sym, ◌∙◌}
use contract.Lifetimes.{Lfts}
use Rattle.compare.proofs.is_same.Reads as is_same

pub is_same_outcome : (κs : Lfts 2) (a x y s t : _) → is_same.Post κs a x s → is_same.Post κs a y t → x ≡ y
is_same_outcome κs a x y s t e h = e ∙ sym h
