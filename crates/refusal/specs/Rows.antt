-- Tables of refusals: rows of a test and a number, of which the first whose test holds is answered (document 01, "Refusal numbers").
use Rattle.std.specs.Prelude.{ℕ, zero, suc, List, [], ◌∷◌, Bool, true, false, ◌||◌, ltb}

-- x where a test holds, else what follows
unfoldable pub pick : {A : Type 0} → Bool → A → A → A
pick true x rest = x
pick false x rest = rest

-- the number of the first row whose test holds; 0, accepted, if none does
abbrev pub first : List (Bool × ℕ) → ℕ
first [] = 0
first (row ∷ rows) = pick row.0 row.1 (first rows)

-- by a call's number: what it was handed where that refuses, what it made where it is 0
unfoldable pub by : {A : Type 0} → ℕ → A → A → A
by zero old new = new
by (suc n) old new = old

-- ---- tests that many rows have

-- under the least or over the most that is taken
abbrev pub outside : ℕ → ℕ → ℕ → Bool
outside least most n = ltb n least || ltb most n

-- a lent output has no room for n bytes
abbrev pub short : ℕ → ℕ → Bool
short out n = ltb out n
