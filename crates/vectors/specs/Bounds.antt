-- The bounds that the contracts cite.
use Rattle.std.specs.Prelude.{ℕ, ◌+◌, ◌≤◌, Bool, true, false, List, Option, Some, eqb, ltb, length}
use Rattle.refusal.specs.Rows.{pick}
use Rattle.vectors.specs.declared.tally.Tally.{Tally}

-- the elements from a up to e are there
abbrev pub Part : ℕ → ℕ → List ℕ → Type 0
Part a e l = (a ≤ e) × (e ≤ length l)

-- of at most n cases no more agreed than were run
abbrev pub Tallied : Tally → ℕ → Type 0
Tallied t n = (t.agreed ≤ t.run) × (t.run ≤ n)

-- a Monte Carlo output of n bytes: it has a last two, and 256 hold the longest
abbrev pub Chain : ℕ → ℕ → ℕ → Type 0
Chain least n most = (2 ≤ least) × (least ≤ n) × (n ≤ most) × (most ≤ 256)

-- one more where a case agrees
abbrev pub more : Bool → ℕ → ℕ
more true n = n + 1
more false n = n

-- the first that differs: this one where all before agreed
abbrev pub differing : Bool → Tally → Option ℕ
differing true t = t.first
differing false t = pick (eqb t.agreed t.run) (Some t.run) t.first

-- a rate or a tag length as an open takes it: 0 where it is too large
abbrev pub setting : ℕ → ℕ
setting n = pick (ltb 65535 n) 0 n
