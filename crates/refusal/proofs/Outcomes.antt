-- Any two outcomes that a public contract (`Post`) allows of one call are equal.
use mathlib.Core.Path.{◌≡◌, sym, ◌∙◌}
use contract.Lifetimes.{Lfts}
use Rattle.refusal.proofs.number.Reads as number
use Rattle.refusal.proofs.outside.Reads as outside
use Rattle.refusal.proofs.is_short.Reads as is_short
use Rattle.refusal.proofs.bad_size.Reads as bad_size

pub outside_outcome : (κs : Lfts 0) (a x y s t : _) → outside.Post κs a x s → outside.Post κs a y t → x ≡ y
outside_outcome κs a x y s t e h = e ∙ sym h

pub is_short_outcome : (κs : Lfts 0) (a x y s t : _) → is_short.Post κs a x s → is_short.Post κs a y t → x ≡ y
is_short_outcome κs a x y s t e h = e ∙ sym h

pub number_outcome : (κs : Lfts 0) (a x y s t : _) → number.Post κs a x s → number.Post κs a y t → x ≡ y
number_outcome κs a x y s t e h = e ∙ sym h

pub bad_size_outcome : (κs : Lfts 0) (a x y s t : _) → bad_size.Post κs a x s → bad_size.Post κs a y t → x ≡ y
bad_size_outcome κs a x y s t e h = e ∙ sym h
