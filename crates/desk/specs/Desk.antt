-- The desks' C functions (document 01, "Desk surface"). Open, wrap and unwrap are the calls of a session's image.
use Rattle.std.specs.Prelude.{ℕ, List, [], ◌∷◌, ◌++◌, length, drop}
use Rattle.refusal.specs.Rows.{first, by, short}
use Rattle.sponge.specs.Hashes.{sha3_256}

-- the settings of this open, which takes none
abbrev pub desk_rate : ℕ
desk_rate = 136

abbrev pub desk_tag : ℕ
desk_tag = 16

-- what is seen of a hash call: its number, and the lent output as it is left
pub record Hashed : Type 0 where
  pub number : ℕ
  pub out : List ℕ

abbrev pub hashed : ℕ → List ℕ → Hashed
hashed n o = record { number = n; out = o }

-- refused 6 if the output is under 32 bytes
unfoldable pub hashes : List ℕ → List ℕ → Hashed
hashes m o =
    let n = first ((short (length o) 32, 6) ∷ []) in
    hashed n (by n o (sha3_256 m ++ drop 32 o))
