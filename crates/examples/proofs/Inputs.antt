-- What the code can be handed: slices of bytes, numbers that fit their types, and sessions that its struct holds. A dud is a function of these
-- inputs, so that no number past them shuts one out.
use Prim.Native.Nat.{ℕ, zero, suc, ◌^◌, ◌<◌}
use native.Mathlib.Omega.{arith}
use mathlib.Core.Path.{◌≡◌}
use mathlib.Core.List.{List, [], ◌∷◌}
use lib.Dec.{lit<}
use lib.ListN.{length, replicate, length-replicate}
use Rattle.spongewrap.specs.declared.Session.{Session}

-- each number of a list is below m
abbrev pub Below : ℕ → List ℕ → Type 0
Below m [] = Unit {0}
Below m (x ∷ l) = (x < m) × Below m l

-- a slice of bytes
pub record Bytes (l : List ℕ) : Type 0 where
  pub short : length l < 2 ^ 64
  pub each : Below 256 l

-- 25 lanes of 64 bits, and numbers that their fields hold
pub record Held (s : Session) : Type 0 where
  pub lanes : length s.lanes ≡ 25
  pub each : Below (2 ^ 64) s.lanes
  pub rate : s.rate < 2 ^ 16
  pub tag : s.tag < 2 ^ 16
  pub pairs : s.pairs < 2 ^ 32
  pub calls : s.calls < 2 ^ 64

-- ---- what each call is handed

pub record Opening : Type 0 where
  pub key : List ℕ
  pub rate : ℕ
  pub tag : ℕ
  pub fits : Bytes key × (rate < 2 ^ 16) × (tag < 2 ^ 16)

pub record Wrapping : Type 0 where
  pub session : Session
  pub header : List ℕ
  pub body : List ℕ
  pub out : List ℕ
  pub fits : Held session × Bytes header × Bytes body × Bytes out

pub record Unwrapping : Type 0 where
  pub session : Session
  pub header : List ℕ
  pub cipher : List ℕ
  pub tag : List ℕ
  pub out : List ℕ
  pub fits : Held session × Bytes header × Bytes cipher × Bytes tag × Bytes out

-- the same under another header
abbrev pub wrapping_under : (h : List ℕ) → Bytes h → Wrapping → Wrapping
wrapping_under h p i =
    record { session = i.session; header = h; body = i.body; out = i.out; fits = (i.fits.0, p, i.fits.2, i.fits.3) }

abbrev pub unwrapping_under : (h : List ℕ) → Bytes h → Unwrapping → Unwrapping
unwrapping_under h p i =
    record { session = i.session; header = h; cipher = i.cipher; tag = i.tag; out = i.out; fits = (i.fits.0, p, i.fits.2, i.fits.3, i.fits.4) }

-- ---- the few that shut the duds out

below_zeros : (m n : ℕ) → 0 < m → Below m (replicate n 0)
below_zeros m zero p = tt
below_zeros m (suc n) p = (p, below_zeros m n p)

-- n zeros
pub blanks : (n : ℕ) → n < 2 ^ 64 → Bytes (replicate n 0)
blanks n p = record { short = rw (length-replicate {A = ℕ} n 0) p; each = below_zeros 256 n (lit< tt) }

-- one byte
pub single : (x : ℕ) → x < 256 → Bytes (x ∷ [])
single x p = omega arith

-- a session with the rate R and one pair: its first lane is x, the others are 0
unfoldable pub plain : ℕ → ℕ → Session
plain x R = record { lanes = x ∷ replicate 24 0; rate = R; tag = 16; pairs = 1; calls = 1 }

pub plain_held : (x R : ℕ) → x < 2 ^ 64 → R < 2 ^ 16 → Held (plain x R)
unfolding plain
plain_held x R p q = omega arith

-- an open that is accepted, and one that is refused
unfoldable pub good : Opening
good = record { key = replicate 16 0; rate = 136; tag = 16; fits = (blanks 16 (lit< tt), lit< tt, lit< tt) }

unfoldable pub bad : Opening
bad = record { key = []; rate = 0; tag = 0; fits = (blanks 0 (lit< tt), lit< tt, lit< tt) }

-- an output with room for any of these
unfoldable pub room : List ℕ
room = replicate 256 0

pub room_bytes : Bytes room
unfolding room
room_bytes = blanks 256 (lit< tt)

-- a wrap of n zeros under an empty header, at the rate R
unfoldable pub wrapping_zeros : (R n : ℕ) → R < 2 ^ 16 → n < 2 ^ 64 → Wrapping
wrapping_zeros R n p q =
    record { session = plain 0 R; header = []; body = replicate n 0; out = room; fits = (plain_held 0 R (lit< tt) p, blanks 0 (lit< tt), blanks n q, room_bytes) }

-- of an empty body under an empty header
unfoldable pub empty : Wrapping
empty = wrapping_zeros 136 0 (lit< tt) (lit< tt)

-- and under the header 0
unfoldable pub wrapping_byte : Wrapping
wrapping_byte =
    record { session = plain 0x303 136; header = 0 ∷ []; body = []; out = room; fits = (plain_held 0x303 136 (lit< tt) (lit< tt), single 0 (lit< tt), blanks 0 (lit< tt), room_bytes) }

-- an unwrap under the header 0, at the rate R
unfoldable pub unwrapping_byte : (R : ℕ) (c t : List ℕ) → R < 2 ^ 16 → Bytes c → Bytes t → Unwrapping
unwrapping_byte R c t p q r =
    record { session = plain 0x303 R; header = 0 ∷ []; cipher = c; tag = t; out = c; fits = (plain_held 0x303 R (lit< tt) p, single 0 (lit< tt), q, r, q) }
