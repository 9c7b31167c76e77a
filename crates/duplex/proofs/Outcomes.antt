-- Any two outcomes that a method's contract (`Post`) allows of one call are equal, and a refused call keeps all.
use mathlib.Core.Path.{◌≡◌, refl, sym, ap, ◌∙◌}
use mathlib.Core.List.{List}
use mathlib.Core.Bool.{true}
use Prim.Native.Nat.{ℕ}
use contract.Lifetimes.{Lfts}
use Rattle.std.proofs.Common.{Result, Ok, Err}
use lib.ListN.{length}
use Rattle.duplex.specs.Object.{Outcome, Seen, outcome, seen, duplex_refused}
use Rattle.duplex.specs.declared.Duplex.{Duplex}
use Rattle.duplex.specs.declared.Refused.{Refused}
use Rattle.duplex.proofs.Object.{refusing}
use Rattle.duplex.proofs.Duplex.new.Reads as new
use Rattle.duplex.proofs.Duplex.duplexing.Reads as duplexing

-- two results that are read as one outcome are one
one_result : (r r' : Result Duplex Refused) → outcome r ≡ outcome r' → r ≡ r'
one_result (Ok d) (Ok d') e = ap (λ (o : Outcome). Ok o.duplex) e
one_result (Ok d) (Err x) e = cc (ap (λ (o : Outcome). o.done) e)
one_result (Err x) (Ok d) e = cc (ap (λ (o : Outcome). o.done) e)
one_result (Err x) (Err x') e = ap (λ (o : Outcome). Err (record { duplex = o.duplex })) e

-- what is seen says both its parts
parts : (r r' : Result Duplex Refused) (o o' : List ℕ) → seen (outcome r) o ≡ seen (outcome r') o' → (r ≡ r') × (o ≡ o')
parts r r' o o' e = (one_result r r' (ap (λ (v : Seen). v.answer) e), ap (λ (v : Seen). v.out) e)

pub new_outcome : (κs : Lfts 0) (a x y s t : _) → new.Post κs a x s → new.Post κs a y t → x ≡ y
new_outcome κs a x y s t e h = e ∙ sym h

pub duplexing_outcome : (κs : Lfts 2) (a x y s t : _) → duplexing.Post κs a x s → duplexing.Post κs a y t
    → (x ≡ y) × (s.1.1.1.0.now ≡ t.1.1.1.0.now)
duplexing_outcome κs a x y s t e h = parts x y _ _ (e ∙ sym h)

-- a refused call hands the object back, and keeps the output
pub duplexing_refused : (κs : Lfts 2) (a x s : _) → duplexing.Post κs a x s
    → duplex_refused a.0.rate (length a.1.0.now) (length a.1.1.1.0.now) ≡ true
    → (x ≡ Err (record { duplex = a.0 })) × (s.1.1.1.0.now ≡ a.1.1.1.0.now)
duplexing_refused κs a x s e h = parts x (Err (record { duplex = a.0 })) _ _ (e ∙ sym (refusing _ _ _ _ _ refl h))
