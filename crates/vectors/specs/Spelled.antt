-- What the lines of the files spell: digits, numbers, bytes, and the field after a name.
use Rattle.std.specs.Prelude.{◌≡◌, ◌⊎◌, codes, ℕ, ◌+◌, ◌-◌, ◌*◌, ◌%◌, ◌<◌, ◌≤◌, List, [], ◌∷◌, Bool, eqb, ltb, length, take, drop, get_or}
use Rattle.refusal.specs.Rows.{pick}
use Rattle.compare.specs.Same.{same}

-- the value of a digit of 0 to 9 or a to f, 16 of any other byte
unfoldable pub digit : ℕ → ℕ
digit b = pick (ltb b 48) 16 (pick (ltb b 58) (b - 48) (pick (ltb b 97) 16 (pick (ltb b 103) (b - 97 + 10) 16)))

-- the decimal number that a text goes on with, after n; below ten millions, which is past every number of the files
unfoldable pub number_from : ℕ → List ℕ → ℕ
number_from n [] = n
number_from n (b ∷ t) = pick (ltb 9 (digit b)) n (pick (ltb 999999 n) n (number_from (10 * n + digit b) t))

-- the byte of two digits, 256 of none
unfoldable pub byte : ℕ → ℕ → ℕ
byte high low = pick (ltb 15 (digit high)) 256 (pick (ltb 15 (digit low)) 256 (16 * digit high + digit low))

-- the bytes of some digits, two each, 256 for two that spell none; a last digit without another is passed over
unfoldable pub bytes : List ℕ → List ℕ
bytes [] = []
bytes (high ∷ []) = []
bytes (high ∷ low ∷ digits) = byte high low ∷ bytes digits

-- every two digits spell a byte, and none is left over
abbrev pub IsWhole : List ℕ → Type 0
IsWhole digits = (length digits % 2 ≡ 0) × ((k : ℕ) → k < length (bytes digits) → get_or (bytes digits) k 0 < 256)

-- the bytes that digits spell, where they are whole and no more than n; none of any others
abbrev pub Decoded : ℕ → List ℕ → List ℕ → Type 0
Decoded n digits text =
    (IsWhole digits → length (bytes digits) ≤ n → text ≡ bytes digits) × ((IsWhole digits → n < length (bytes digits)) → text ≡ [])

-- a line starts with a name
unfoldable pub is_named : List ℕ → List ℕ → Bool
is_named line name = same (take (length name) line) name

-- what follows a name; nothing where the line has another
unfoldable pub value : List ℕ → List ℕ → List ℕ
value line name = pick (is_named line name) (drop (length name) line) []

-- the number after a name, or what was there before
unfoldable pub number_after : List ℕ → List ℕ → ℕ → ℕ
number_after line name n = pick (eqb (length (value line name)) 0) n (number_from 0 (value line name))

-- the line ends a case of NIST's: it has a digest or an output
abbrev pub HasResult : List ℕ → Type 0
HasResult line = (0 < length (value line (codes "MD = "))) ⊎ (0 < length (value line (codes "Output = ")))
