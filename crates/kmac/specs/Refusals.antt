-- What each call refuses, by the lengths that it is handed, in its order. The numbers are those of a key, a tag's length and a header.
use Rattle.std.specs.Prelude.{ℕ, List, [], ◌∷◌, Bool, ltb}
use Rattle.refusal.specs.Limits.{bad_size}

abbrev pub most_string : ℕ
most_string = 65535

-- a name or a customisation of over 65,535 bytes
abbrev pub long_string : ℕ → Bool
long_string n = ltb most_string n

abbrev pub cshake_rows : ℕ → ℕ → List (Bool × ℕ)
cshake_rows name customisation = (long_string name, 4) ∷ (long_string customisation, 4) ∷ []

abbrev pub kmac_rows : ℕ → ℕ → ℕ → List (Bool × ℕ)
kmac_rows key out customisation = (bad_size key, 2) ∷ (bad_size out, 3) ∷ (long_string customisation, 4) ∷ []

abbrev pub kmacxof_rows : ℕ → ℕ → List (Bool × ℕ)
kmacxof_rows key customisation = (bad_size key, 2) ∷ (long_string customisation, 4) ∷ []
