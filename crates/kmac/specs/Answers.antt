-- What is seen of each call, for every input.
use Rattle.std.specs.Prelude.{ℕ, List, Bool, false, length, Result, Ok, Err}
use Rattle.refusal.specs.Rows.{first, by}
use Rattle.compare.specs.Same.{same}
use Rattle.refusal.specs.Numbers.{number_of}
use Rattle.refusal.specs.declared.Refusal.{Refusal}
use Rattle.kmac.specs.Functions.{cshake, kmac, kmacxof}
use Rattle.kmac.specs.Refusals.{cshake_rows, kmac_rows, kmacxof_rows}

-- a call's number, and the lent output as it is left
pub record Seen : Type 0 where
  pub answer : ℕ
  pub out : List ℕ

abbrev pub seen : ℕ → List ℕ → Seen
seen a o = record { answer = a; out = o }

-- by the number n: a refusal keeps the output o; else it is filled with x
unfoldable pub settled : ℕ → List ℕ → List ℕ → Seen
settled n o x = seen n (by n o x)

-- what verification answers: a number, and whether the code is right
pub record Verdict : Type 0 where
  pub number : ℕ
  pub is_right : Bool

-- the verdict that a result is
abbrev pub verdict : Result Bool Refusal → Verdict
verdict (Ok b) = record { number = 0; is_right = b }
verdict (Err r) = record { number = number_of r; is_right = false }

-- by the number n: yes only where nothing is refused
unfoldable pub judged : ℕ → Bool → Verdict
judged n b = record { number = n; is_right = by n false b }

module _ (w : ℕ) (f : List ℕ → List ℕ) (R : ℕ) where
  unfoldable pub cshakes : List ℕ → List ℕ → List ℕ → List ℕ → Seen
  cshakes N S X o = settled (first (cshake_rows (length N) (length S))) o (cshake w f R X (length o) N S)

  unfoldable pub kmacs : List ℕ → List ℕ → List ℕ → List ℕ → Seen
  kmacs K S X o = settled (first (kmac_rows (length K) (length o) (length S))) o (kmac w f R K X (length o) S)

  unfoldable pub kmacxofs : List ℕ → List ℕ → List ℕ → List ℕ → Seen
  kmacxofs K S X o = settled (first (kmacxof_rows (length K) (length S))) o (kmacxof w f R K X (length o) S)

  -- whether the code is the one recomputed at its length
  unfoldable pub verifies : List ℕ → List ℕ → List ℕ → List ℕ → Verdict
  verifies K S X code =
      judged (first (kmac_rows (length K) (length code) (length S))) (same code (kmac w f R K X (length code) S))
