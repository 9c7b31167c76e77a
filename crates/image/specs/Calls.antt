-- The calls of a session that travels as an image (document 01, "Desk surface"): what each answers and leaves, for every input.
use Rattle.std.specs.Prelude.{ℕ, List, [], not, eqb, length}
use Rattle.refusal.specs.Rows.{pick, by}
use Rattle.spongewrap.specs.Desk.{desk}
use Rattle.spongewrap.specs.Sessions as sessions
use Rattle.spongewrap.specs.Sessions.{opens, wraps, unwraps}
use Rattle.image.specs.Image.{image_length, image_of, session_of}

-- what is seen of a call: its number, and the image and the lent output as they are left
pub record Seen : Type 0 where
  pub number : ℕ
  pub image : List ℕ
  pub out : List ℕ

abbrev pub seen : ℕ → List ℕ → List ℕ → Seen
seen n i o = record { number = n; image = i; out = o }

-- a call over a buffer b of n bytes: of another length it is refused 6 before all else, and b and the lent output o are left
abbrev pub sized : ℕ → List ℕ → List ℕ → Seen → Seen
sized n b o given = pick (not (eqb (length b) n)) (seen 6 b o) given

-- the call w on an image's session: on success the image is the new session's, else as it was
abbrev pub over_image : List ℕ → sessions.Seen → Seen
over_image i w = seen w.answer.number (by w.answer.number i (image_of w.answer.session)) w.out

unfoldable pub opens_image : List ℕ → ℕ → ℕ → List ℕ → Seen
opens_image key R t i = sized image_length i [] (over_image i (sessions.seen (opens desk key R t) []))

unfoldable pub wraps_image : List ℕ → List ℕ → List ℕ → List ℕ → Seen
wraps_image i h b o = sized image_length i o (over_image i (wraps desk (session_of i) h b o))

unfoldable pub unwraps_image : List ℕ → List ℕ → List ℕ → List ℕ → List ℕ → Seen
unwraps_image i h c t o = sized image_length i o (over_image i (unwraps desk (session_of i) h c t o))
