-- A state as 200 bytes in block order, and a duplex object as 202: its state and then its rate, big-endian.
use Rattle.std.specs.Prelude.{ℕ, List, [], ◌∷◌, ◌++◌, not}
use Rattle.sponge.specs.Table.{table}
use Rattle.sponge.specs.Bytes.{bytes, lane_of}
use Rattle.fields.specs.Numbers.{number_at}
use Rattle.duplex.specs.Object as object
use Rattle.duplex.specs.Object.{bit}
use Rattle.duplex.specs.declared.Duplex.{Duplex}
use Rattle.image.specs.Image.{field_bytes}
use Rattle.image.specs.Calls.{Seen, seen}

-- the lanes of a state
abbrev pub lanes_of : List ℕ → List ℕ
lanes_of b = table 25 (lane_of 64 b)

-- ---- a duplex object

abbrev pub object_length : ℕ
object_length = 202

unfoldable pub object_of : Duplex → List ℕ
object_of d = bytes 64 d.lanes ++ field_bytes ((2, d.rate) ∷ [])

unfoldable pub duplex_of : List ℕ → Duplex
duplex_of b = record { lanes = lanes_of b; rate = number_at 2 b 200 }

-- 0 where a call is done and 1 where it is not; the object that it left goes back either way
abbrev pub of_object : object.Seen → Seen
of_object w = seen (bit (not w.answer.done)) (object_of w.answer.duplex) w.out
