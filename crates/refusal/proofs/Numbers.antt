-- A number says which refusal it is, and 0 that there is none: answers that tell one number are equal.
use Prim.Native.Nat.{ℕ}
use mathlib.Core.List.{List, [], ◌∷◌}
use lib.ListN.{get_or}
use mathlib.Core.Path.{◌≡◌, refl, sym, ap, ◌∙◌}
use Rattle.std.specs.Prelude.{Result, Ok, Err}
use Rattle.refusal.specs.Numbers.{number_of, told}
use Rattle.refusal.specs.declared.Refusal.{Refusal}
use Rattle.refusal.specs.declared.Refusal.TheVariants.{BadRate, BadKey, BadTagLength, LongHeader, LongBody, NoRoom, Full, WrongTag, Malformed, OtherVersion, NoLabel}

-- the answers in the order of their numbers
answers : List (Result Unit Refusal)
answers =
    Ok tt
    ∷ Err BadRate
    ∷ Err BadKey
    ∷ Err BadTagLength
    ∷ Err LongHeader
    ∷ Err LongBody
    ∷ Err NoRoom
    ∷ Err Full
    ∷ Err WrongTag
    ∷ Err Malformed
    ∷ Err OtherVersion
    ∷ Err NoLabel
    ∷ []

read : ℕ → Result Unit Refusal
read n = get_or answers n (Ok tt)

read_told : (r : Result Unit Refusal) → read (told r) ≡ r
unfolding read answers
read_told (Ok u) = refl
read_told (Err BadRate) = refl
read_told (Err BadKey) = refl
read_told (Err BadTagLength) = refl
read_told (Err LongHeader) = refl
read_told (Err LongBody) = refl
read_told (Err NoRoom) = refl
read_told (Err Full) = refl
read_told (Err WrongTag) = refl
read_told (Err Malformed) = refl
read_told (Err OtherVersion) = refl
read_told (Err NoLabel) = refl

pub told_alike : (x y : Result Unit Refusal) → told x ≡ told y → x ≡ y
told_alike x y e = sym (read_told x) ∙ ap read e ∙ read_told y

pub number_alike : (x y : Refusal) → number_of x ≡ number_of y → x ≡ y
number_alike x y e = let f : ◌≡◌ {A = Result Unit Refusal} (Err x) (Err y) = told_alike (Err x) (Err y) e in cc

-- a refusal has a number
pub numbered_refusal : (r : Refusal) → number_of r ≡ 0 → ⊥
numbered_refusal r e = let f : ◌≡◌ {A = Result Unit Refusal} (Err r) (Ok tt) = told_alike (Err r) (Ok tt) e in cc
