-- A session's image (document 01, "Desk surface"): 200 state bytes in block order, then the rate in 2, the tag length in 2, the
-- pairs in 4 and the count in 8, big-endian.
use Rattle.std.specs.Prelude.{ℕ, List, [], ◌∷◌, ◌++◌}
use Rattle.sponge.specs.Table.{table}
use Rattle.sponge.specs.Bytes.{bytes, lane_of}
use Rattle.fields.specs.Numbers.{number_at, bytes_of}
use Rattle.spongewrap.specs.declared.Session.{Session}

abbrev pub image_length : ℕ
image_length = 216

-- the numbers behind the state, each with how many bytes it takes
abbrev pub fields_of : Session → List (ℕ × ℕ)
fields_of s = (2, s.rate) ∷ (2, s.tag) ∷ (4, s.pairs) ∷ (8, s.calls) ∷ []

unfoldable pub field_bytes : List (ℕ × ℕ) → List ℕ
field_bytes [] = []
field_bytes (f ∷ fs) = bytes_of f.0 f.1 ++ field_bytes fs

unfoldable pub image_of : Session → List ℕ
image_of s = bytes 64 s.lanes ++ field_bytes (fields_of s)

unfoldable pub session_of : List ℕ → Session
session_of b =
    record {
      lanes = table 25 (lane_of 64 b);
      rate = number_at 2 b 200;
      tag = number_at 2 b 202;
      pairs = number_at 4 b 204;
      calls = number_at 8 b 208;
    }
