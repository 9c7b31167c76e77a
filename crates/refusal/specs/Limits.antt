-- Limits that more than one crate has (document 01, "Refusal numbers").
use Rattle.std.specs.Prelude.{ℕ, Bool}
use Rattle.refusal.specs.Rows.{outside}

abbrev pub least_size : ℕ
least_size = 16

abbrev pub most_size : ℕ
most_size = 256

-- 2 and 3: a key, a tag or a code of under 16 or over 256 bytes
abbrev pub bad_size : ℕ → Bool
bad_size n = outside least_size most_size n
