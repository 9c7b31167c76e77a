-- A string that is absorbed in parts, which need not end where blocks do (FIPS 202, section 4): byte after byte, from any offset in a block.
-- Over any permutation f of 25 lanes of w bits, at a rate of R bytes.
use Rattle.std.specs.Prelude.{ℕ, ◌+◌, ◌-◌, ◌*◌, ◌/◌, ◌%◌, ◌<◌, ◌≤◌, ◌≡◌, get_or, replicate}
use mathlib.Core.List.{List, [], ◌∷◌, ◌++◌, foldl}
use Rattle.sponge.specs.Bytes.{mixed}
use Rattle.sponge.specs.Padding.{tail}
use Rattle.sponge.specs.Sponge.{zeros, iterate}
use Rattle.absorber.specs.declared.Absorbing.{Absorbing}

-- every element is a byte
abbrev pub AreBytes : List ℕ → Type 0
AreBytes s = (i : ℕ) → get_or s i 0 < 256

-- lanes that have whole blocks in, and those that have none yet
abbrev pub edge : List ℕ → Absorbing
edge a = record { lanes = a; offset = 0 }

abbrev pub fresh : Absorbing
fresh = edge zeros

-- lanes with n bytes of a block xored in: a block that is full is permuted
unfoldable pub turned : (List ℕ → List ℕ) → ℕ → List ℕ → ℕ → Absorbing
turned f R a n = record { lanes = iterate f a (n / R); offset = n % R }

module _ (w : ℕ) (f : List ℕ → List ℕ) (R : ℕ) where
  -- the byte b, behind the bytes of the block that are in
  unfoldable pub absorb_byte : Absorbing → ℕ → Absorbing
  absorb_byte c b = turned f R (mixed w c.lanes (replicate c.offset 0 ++ (b ∷ []))) (c.offset + 1)

  unfoldable pub absorb_string : Absorbing → List ℕ → Absorbing
  absorb_string c s = foldl absorb_byte c s

  -- the end of the message: the lanes after the suffix byte s and the padding, which fill the block
  unfoldable pub ended : Absorbing → ℕ → List ℕ
  ended c s = (absorb_string c (tail s (R - 1 - c.offset))).lanes

  -- what is promised of an absorber r that has absorbed s after all that c had
  pub record Absorbed (c : Absorbing) (s : List ℕ) (r : Absorbing) : Type 0 where
    pub is : r ≡ absorb_string c s
    pub inside : r.offset < R
    pub are_bytes : AreBytes s

-- what the code asks of a rate, and of where an absorber stands: a block of whole lanes, and room in it
pub record Ready (w R offset : ℕ) : Type 0 where
  pub inside : offset < R
  pub most : R ≤ 25 * (w / 8)
  pub whole : R % (w / 8) ≡ 0
