-- What tells kinds of session apart.
use Rattle.std.specs.Prelude.{ℕ, List, [], ◌∷◌}
use Rattle.duplex.specs.Duplex.{Rate}

-- each of some numbers is a rate for lanes of w bits
abbrev pub Rates : ℕ → List ℕ → Type 0
Rates w [] = Unit {0}
Rates w (R ∷ Rs) = Rate w R × Rates w Rs

-- lanes of w bits, the permutation f of 25 of them, which rates may be stated, and the ceiling on the count
pub record Kind : Type 0 where
  pub w : ℕ
  pub f : List ℕ → List ℕ
  pub rates : List ℕ
  pub ceiling : ℕ
  pub fit : Rates w rates
