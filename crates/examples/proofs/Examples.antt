-- Document 01, "Checked by hand": every line marked P, computed from the definitions.
use Prim.Native.Nat.{ℕ, ◌+◌, ◌-◌, ◌*◌}
use mathlib.Core.Path.{◌≡◌, refl}
use mathlib.Core.List.{List, [], ◌∷◌, map}
use lib.ListN.{get_or, replicate}
use Rattle.keccak.specs.Lanes.{lane}
use Rattle.keccak.specs.Tables.{offsets}
use Rattle.sponge.specs.Padding.{tail, padded}
use Rattle.sponge.specs.Pieces.{before}
use Rattle.duplex.specs.Duplex.{framed}
use Rattle.duplex.specs.Strings.{blocks}
use Rattle.spongewrap.specs.Desk.{desk}
use Rattle.refusal.specs.Rows.{pick, by}
use Rattle.refusal.specs.Limits.{most_size}
use Rattle.spongewrap.specs.Refusals.{most_header, most_body, most_pairs, open_refusal, wrap_refusal}
use Rattle.spongewrap.specs.Sessions.{opens, cost, advanced, next, settled, wraps}
use Rattle.spongewrap.specs.declared.Session.{Session}

-- byte i of the block of a piece of n bytes with the frame bit b
byte : ℕ → ℕ → ℕ → ℕ
byte i n b = get_or (framed 136 b (replicate n 0x41)) i 0

-- a session from a key of 32 bytes, and after a header of 16 with an empty body
begun : Session
begun = (opens desk (replicate 32 0x41) 136 16).session

entered : Session
entered = (wraps desk begun (replicate 16 0x41) [] (replicate 16 0)).answer.session

-- what is computed, and what the document lists
pub cases : List (ℕ × ℕ)
cases =
    -- empty piece, frame 0 and 1
    (byte 0 0 0, 0x02)
    ∷ (byte 135 0 0, 0x80)
    ∷ (byte 0 0 1, 0x03)
    -- piece of 134, frame 1; piece of 135
    ∷ (byte 134 134 1, 0x03)
    ∷ (byte 135 134 1, 0x80)
    ∷ (byte 135 135 0, 0x82)
    ∷ (byte 135 135 1, 0x83)
    -- blocks
    ∷ (blocks 136 0, 1)
    ∷ (blocks 136 135, 1)
    ∷ (blocks 136 136, 2)
    ∷ (blocks 136 270, 2)
    ∷ (blocks 136 271, 3)
    ∷ (blocks 168 167, 1)
    ∷ (blocks 168 168, 2)
    -- offsets
    ∷ (lane (offsets 64) 1 0, 1)
    ∷ (lane (offsets 64) 0 2, 3)
    ∷ (lane (offsets 64) 2 1, 6)
    ∷ (lane (offsets 64) 1 1, 44)
    -- key 32, header 16, empty body, tag 16
    ∷ (begun.calls, 1)
    ∷ (entered.calls, 3)
    -- the largest pair, tag 256
    ∷ (blocks 136 65535, 486)
    ∷ (blocks 136 1048576, 7768)
    ∷ (blocks 136 256 - 1, 1)
    ∷ (cost 136 256 65535 1048576, 8255)
    -- so much is the ceiling on a count: 65,535 such pairs, after a key of 256 bytes
    ∷ (most_pairs * cost 136 most_size most_header most_body + blocks 136 most_size, desk.ceiling)
    ∷ []

-- Each worked example of document 01 that is marked P comes out as it is listed there.
pub examples : map (λ c. c.0) cases ≡ map (λ c. c.1) cases
unfolding cases byte begun entered framed padded tail blocks before opens open_refusal pick by wraps settled wrap_refusal next advanced cost
examples = refl
