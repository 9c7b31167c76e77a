-- The duplex object over Keccak-f[1600]: what is seen of one call, for every input (the duplex object of "Duplexing the sponge").
use Rattle.std.specs.Prelude.{ℕ, List, Bool, true, false, not, ◌&&◌, ◌||◌, eqb, ltb, leb, length, take, Result, Ok, Err}
use Rattle.keccak.specs.Rounds.{f1600}
use Rattle.sponge.specs.Bytes.{bytes}
use Rattle.duplex.specs.Duplex.{duplexing}
use Rattle.duplex.specs.declared.Duplex.{Duplex}
use Rattle.duplex.specs.declared.Refused.{Refused}

-- what a call answers: whether it was done, and the object after it
pub record Outcome : Type 0 where
  pub done : Bool
  pub duplex : Duplex

-- a `Result` read so: a refused call hands the object back
abbrev pub outcome : Result Duplex Refused → Outcome
outcome (Ok d) = record { done = true; duplex = d }
outcome (Err r) = record { done = false; duplex = r.duplex }

-- what is seen of a call: its answer, and the lent output as it is left
pub record Seen : Type 0 where
  pub answer : Outcome
  pub out : List ℕ

abbrev pub seen : Outcome → List ℕ → Seen
seen a o = record { answer = a; out = o }

-- the frame bit
abbrev pub bit : Bool → ℕ
bit true = 1
bit false = 0

-- what is not done: another rate, a piece that leaves no room for its frame, more output than a block
unfoldable pub duplex_refused : ℕ → ℕ → ℕ → Bool
duplex_refused R piece out = (not (eqb R 136) && not (eqb R 168)) || leb R piece || ltb R out

-- a call that is refused keeps the object d and the output o; else the lanes are l, and their first bytes fill the output
unfoldable pub duplex_settled : Bool → Duplex → List ℕ → List ℕ → Seen
duplex_settled true d o l = seen (record { done = false; duplex = d }) o
duplex_settled false d o l =
    seen (record { done = true; duplex = record { lanes = l; rate = d.rate } }) (take (length o) (bytes 64 l))

unfoldable pub duplexes : Duplex → List ℕ → Bool → List ℕ → Seen
duplexes d p b o =
    duplex_settled (duplex_refused d.rate (length p) (length o)) d o (duplexing 64 f1600 d.rate d.lanes p (bit b))
