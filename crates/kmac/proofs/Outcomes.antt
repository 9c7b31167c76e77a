-- Any two outcomes that a public contract (`Post`) allows of one call are equal: answers, and what the lent output holds.
use Prim.Native.Nat.{ℕ}
use mathlib.Core.Path.{◌≡◌, sym, ap, ◌∙◌}
use mathlib.Core.List.{List}
use contract.Lifetimes.{Lfts}
use Rattle.std.specs.Prelude.{Bool, Result, Ok, Err}
use Rattle.refusal.specs.Numbers.{told}
use Rattle.refusal.specs.declared.Refusal.{Refusal}
use Rattle.refusal.proofs.Numbers.{told_alike, number_alike, numbered_refusal}
use Rattle.kmac.specs.Answers.{Seen, seen, Verdict, verdict}
use Rattle.kmac.proofs.cshake128.Reads as cshake128
use Rattle.kmac.proofs.cshake256.Reads as cshake256
use Rattle.kmac.proofs.kmac128.Reads as kmac128
use Rattle.kmac.proofs.kmac256.Reads as kmac256
use Rattle.kmac.proofs.kmacxof128.Reads as kmacxof128
use Rattle.kmac.proofs.kmacxof256.Reads as kmacxof256
use Rattle.kmac.proofs.kmac128_verify.Reads as kmac128_verify
use Rattle.kmac.proofs.kmac256_verify.Reads as kmac256_verify

-- what is seen says both its parts
parts : (r r' : Result Unit Refusal) (o o' : List ℕ) → seen (told r) o ≡ seen (told r') o' → (r ≡ r') × (o ≡ o')
parts r r' o o' e = (told_alike r r' (ap (λ (v : Seen). v.answer) e), ap (λ (v : Seen). v.out) e)

-- and a verdict which result it is
verdict_alike : (x y : Result Bool Refusal) → verdict x ≡ verdict y → x ≡ y
verdict_alike (Ok b) (Ok c) e = ap Ok (ap (λ (v : Verdict). v.is_right) e)
verdict_alike (Ok b) (Err q) e = absurd (numbered_refusal q (sym (ap (λ (v : Verdict). v.number) e)))
verdict_alike (Err r) (Ok c) e = absurd (numbered_refusal r (ap (λ (v : Verdict). v.number) e))
verdict_alike (Err r) (Err q) e = ap Err (number_alike r q (ap (λ (v : Verdict). v.number) e))

pub cshake128_outcome : (κs : Lfts 4) (a x y s t : _) → cshake128.Post κs a x s → cshake128.Post κs a y t → (x ≡ y) × (s.1.1.1.0.now ≡ t.1.1.1.0.now)
cshake128_outcome κs a x y s t e h = parts x y _ _ (e ∙ sym h)

pub cshake256_outcome : (κs : Lfts 4) (a x y s t : _) → cshake256.Post κs a x s → cshake256.Post κs a y t → (x ≡ y) × (s.1.1.1.0.now ≡ t.1.1.1.0.now)
cshake256_outcome κs a x y s t e h = parts x y _ _ (e ∙ sym h)

pub kmac128_outcome : (κs : Lfts 4) (a x y s t : _) → kmac128.Post κs a x s → kmac128.Post κs a y t → (x ≡ y) × (s.1.1.1.0.now ≡ t.1.1.1.0.now)
kmac128_outcome κs a x y s t e h = parts x y _ _ (e ∙ sym h)

pub kmac256_outcome : (κs : Lfts 4) (a x y s t : _) → kmac256.Post κs a x s → kmac256.Post κs a y t → (x ≡ y) × (s.1.1.1.0.now ≡ t.1.1.1.0.now)
kmac256_outcome κs a x y s t e h = parts x y _ _ (e ∙ sym h)

pub kmacxof128_outcome : (κs : Lfts 4) (a x y s t : _) → kmacxof128.Post κs a x s → kmacxof128.Post κs a y t → (x ≡ y) × (s.1.1.1.0.now ≡ t.1.1.1.0.now)
kmacxof128_outcome κs a x y s t e h = parts x y _ _ (e ∙ sym h)

pub kmacxof256_outcome : (κs : Lfts 4) (a x y s t : _) → kmacxof256.Post κs a x s → kmacxof256.Post κs a y t → (x ≡ y) × (s.1.1.1.0.now ≡ t.1.1.1.0.now)
kmacxof256_outcome κs a x y s t e h = parts x y _ _ (e ∙ sym h)

pub kmac128_verify_outcome : (κs : Lfts 4) (a x y s t : _) → kmac128_verify.Post κs a x s → kmac128_verify.Post κs a y t → x ≡ y
kmac128_verify_outcome κs a x y s t e h = verdict_alike x y (e ∙ sym h)

pub kmac256_verify_outcome : (κs : Lfts 4) (a x y s t : _) → kmac256_verify.Post κs a x s → kmac256_verify.Post κs a y t → x ≡ y
kmac256_verify_outcome κs a x y s t e h = verdict_alike x y (e ∙ sym h)
