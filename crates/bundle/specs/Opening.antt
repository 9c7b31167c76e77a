-- Opening the entry at a given place (document 01, "Bundle, version 1": "Opening the entry at a given place").
use Rattle.std.specs.Prelude.{ℕ, List, [], ◌∷◌, ◌++◌, Bool, length, drop}
use Rattle.spongewrap.specs.Desk.{desk}
use Rattle.refusal.specs.Rows.{short}
use Rattle.spongewrap.specs.Sessions.{next, recovered, foreign, unwraps, Seen as Unwrapped}
use Rattle.spongewrap.specs.declared.Session.{Session}
use Rattle.bundle.specs.Format.{Version, body_length, header_at, cipher_at, tag_at, next_at, entry_at}
use Rattle.bundle.specs.Answers.{Told, accepted, placed, ◌or_else◌, own, entry_told, Seen, settled_at}

-- the rows that an unwrap brings
abbrev pub last_rows : Version → Session → List ℕ → ℕ → ℕ → List (Bool × ℕ)
last_rows v s b place out =
    (short out (body_length b place), 6) ∷ (foreign desk s (header_at b place) (cipher_at b place) (tag_at v b place), 8) ∷ []

-- 1, 3, 7, then 9 under the entry rules, 6, 8, each at that place; else the next entry's place is answered. `out` is the lent output's length
unfoldable pub open_table : Version → Session → List ℕ → ℕ → ℕ → Told
open_table v s b place out =
    placed place (own v s)
    or_else entry_told (entry_at v b place) place
    or_else placed place (last_rows v s b place out)
    or_else accepted (next_at v b place ∷ [])

-- the body of the entry
unfoldable pub body_at : Session → List ℕ → ℕ → List ℕ
body_at s b place = recovered desk s (header_at b place) (cipher_at b place)

-- what an unwrap of its parts gives
abbrev pub unwraps_at : Version → Session → List ℕ → ℕ → List ℕ → Unwrapped
unwraps_at v s b place o = unwraps desk s (header_at b place) (cipher_at b place) (tag_at v b place) o

unfoldable pub opens_entry : Version → Session → List ℕ → ℕ → List ℕ → Seen
opens_entry v s b place o =
    settled_at (open_table v s b place (length o)) s o
    (next desk s (header_at b place) (body_at s b place)) (body_at s b place ++ drop (length (body_at s b place)) o)
