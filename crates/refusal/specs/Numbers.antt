-- The refusals' numbers (document 01, "Refusal numbers").
use Rattle.std.specs.Prelude.{ℕ, Result, Ok, Err}
use Rattle.refusal.specs.declared.Refusal.{Refusal}
use Rattle.refusal.specs.declared.Refusal.TheVariants.{BadRate, BadKey, BadTagLength, LongHeader, LongBody, NoRoom, Full, WrongTag, Malformed, OtherVersion, NoLabel}

abbrev pub number_of : Refusal → ℕ
number_of BadRate = 1
number_of BadKey = 2
number_of BadTagLength = 3
number_of LongHeader = 4
number_of LongBody = 5
number_of NoRoom = 6
number_of Full = 7
number_of WrongTag = 8
number_of Malformed = 9
number_of OtherVersion = 10
number_of NoLabel = 11

-- the number that an answer has: its refusal's, or 0, accepted
abbrev pub told : {A : Type 0} → Result A Refusal → ℕ
told (Ok a) = 0
told (Err r) = number_of r
