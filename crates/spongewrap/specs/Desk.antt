-- The desk's sessions: their kind.
use Rattle.std.specs.Prelude.{ℕ, [], ◌∷◌}
use Rattle.std.proofs.Common.{arith}
use Rattle.keccak.specs.Rounds.{f1600}
use Rattle.spongewrap.specs.Kinds.{Rates, Kind}

pub desk_fit : Rates 64 (136 ∷ 168 ∷ [])
desk_fit = omega arith

abbrev pub desk : Kind
desk = record { w = 64; f = f1600; rates = 136 ∷ 168 ∷ []; ceiling = 540991427; fit = desk_fit }

-- what an open that states no settings takes
abbrev pub default_rate : ℕ
default_rate = 136

abbrev pub default_tag : ℕ
default_tag = 16
