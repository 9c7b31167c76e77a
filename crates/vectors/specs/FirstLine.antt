-- The first line of some bytes.
use Rattle.std.specs.Prelude.{◌≡◌, ℕ, ◌+◌, ◌-◌, ◌≤◌, List, Option, None, Some, length, take, drop, get_or, eqb}
use Rattle.std.specs.List.{position}
use Rattle.std.specs.Option.{MatchOption, option_map}
use Rattle.refusal.specs.Rows.{pick}
use Rattle.vectors.specs.declared.lines.Size.{Size}

-- where the first newline stands
abbrev pub newline : List ℕ → Option ℕ
newline bytes = position (λ b. eqb b 10) bytes

-- a line without the return at its end
unfoldable pub unreturned : List ℕ → List ℕ
unreturned line = pick (eqb (get_or line (length line - 1) 0) 13) (take (length line - 1) line) line

-- the line before the first newline, and what follows; none where no newline is there
unfoldable pub first_line : List ℕ → Option (List ℕ × List ℕ)
first_line bytes = option_map (λ n. (unreturned (take n bytes), drop (n + 1) bytes)) (newline bytes)

-- the first line of some bytes and its newline have these sizes; or there is none
abbrev pub IsFirst : Option Size → List ℕ → Type 0
IsFirst size bytes =
    MatchOption size
    (first_line bytes ≡ None)
    (λ s. (s.line ≤ s.whole) × (s.whole ≤ length bytes) × (first_line bytes ≡ Some (take s.line bytes, drop s.whole bytes)))
