-- The refusal numbers, a clause each, and the order of each call's (document 01, "Refusal numbers").
use Rattle.std.specs.Prelude.{ℕ, ◌+◌, ◌<◌, ◌≤◌, List, [], ◌∷◌, ◌++◌, Bool, true, not, ◌&&◌, ◌||◌, eqb, ltb, leb}
use Rattle.refusal.specs.Rows.{first, short}
use Rattle.refusal.specs.Limits.{least_size, most_size, bad_size}
use Rattle.duplex.specs.Duplex.{Rate}
use Rattle.spongewrap.specs.Kinds.{Kind}
use Rattle.spongewrap.specs.declared.Session.{Session}

-- ---- the limits

abbrev pub most_header : ℕ
most_header = 65535

abbrev pub most_body : ℕ
most_body = 1048576

abbrev pub most_pairs : ℕ
most_pairs = 65535

-- ---- the clauses

-- 1: the rate is none of the kind's
abbrev pub bad_rate : List ℕ → ℕ → Bool
bad_rate [] rate = true
bad_rate (R ∷ Rs) rate = bad_rate Rs rate && not (eqb rate R)

-- 4: a header of over 65,535 bytes
abbrev pub long_header : ℕ → Bool
long_header n = ltb most_header n

-- 5: a body of over 1,048,576 bytes
abbrev pub long_body : ℕ → Bool
long_body n = ltb most_body n

-- 7: 65,535 pairs or more, or a count over the kind's ceiling
abbrev pub full : ℕ → ℕ → ℕ → Bool
full ceiling pairs calls = leb most_pairs pairs || ltb ceiling calls

-- ---- the orders, by what is found of a session and by the lengths of what is handed over

abbrev pub open_rows : Bool → ℕ → ℕ → List (Bool × ℕ)
open_rows rate key tag = (rate, 1) ∷ (bad_size key, 2) ∷ (bad_size tag, 3) ∷ []

-- a session's own rows, which every call that seals or opens has first: its rate, its tag length, its pairs and calls
abbrev pub own_rows : Bool → Bool → Bool → List (Bool × ℕ)
own_rows rate tag full = (rate, 1) ∷ (tag, 3) ∷ (full, 7) ∷ []

-- those of the session s, by its kind's ceiling and by what is found of its rate and of its tag length
abbrev pub rows_of : ℕ → Session → Bool → Bool → List (Bool × ℕ)
rows_of ceiling s rate tag = own_rows rate tag (full ceiling s.pairs s.calls)

-- the rows of a header and a body
abbrev pub part_rows : ℕ → ℕ → List (Bool × ℕ)
part_rows header body = (long_header header, 4) ∷ (long_body body, 5) ∷ []

-- ---- of a kind of session

module _ (K : Kind) where
  unfoldable pub open_refusal : ℕ → ℕ → ℕ → ℕ
  open_refusal key rate tag = first (open_rows (bad_rate K.rates rate) key tag)

  -- what a wrap and an unwrap have in common
  abbrev pub common_rows : Session → ℕ → ℕ → List (Bool × ℕ)
  common_rows s header body = rows_of K.ceiling s (bad_rate K.rates s.rate) (bad_size s.tag) ++ part_rows header body

  unfoldable pub wrap_refusal : Session → ℕ → ℕ → ℕ → ℕ
  wrap_refusal s header body out = first (common_rows s header body ++ (short out (body + s.tag), 6) ∷ [])

  -- an unwrap's rows before its tag's
  abbrev pub ready_rows : Session → ℕ → ℕ → ℕ → List (Bool × ℕ)
  ready_rows s header body out = common_rows s header body ++ (short out body, 6) ∷ []

  -- `other`: the tag is another than the recomputed one
  unfoldable pub unwrap_refusal : Session → ℕ → ℕ → ℕ → Bool → ℕ
  unwrap_refusal s header body out other = first (ready_rows s header body out ++ (other, 8) ∷ [])

  -- what a session and the lengths of a header and a body are where the rows that both calls have are passed
  pub record Fits (s : Session) (header body : ℕ) : Type 0 where
    pub rate : Rate K.w s.rate
    pub tag : (least_size ≤ s.tag) × (s.tag ≤ most_size)
    pub pairs : s.pairs < most_pairs
    pub calls : s.calls ≤ K.ceiling
    pub header_fits : header ≤ most_header
    pub body_fits : body ≤ most_body
