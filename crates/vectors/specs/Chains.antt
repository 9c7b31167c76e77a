-- The Monte Carlo chains of NIST's SHA3VS, each output in the front of 256 zeros.
use Rattle.std.specs.Prelude.{ℕ, zero, suc, ◌+◌, ◌-◌, ◌*◌, ◌%◌, List, ◌++◌, take, drop, get_or, replicate}
use Rattle.sponge.specs.Hashes.{sha3_256, shake128, shake256}
use Rattle.vectors.specs.declared.hashes.Hash.{Hash}
use Rattle.vectors.specs.declared.hashes.Hash.TheVariants.{Sha3_256, Shake128, Shake256}
use Rattle.vectors.specs.declared.chains.Link.{Link}

-- n bytes in the front
abbrev pub widened : ℕ → List ℕ → List ℕ
widened n d = d ++ drop n (replicate 256 0)

unfoldable pub hashed : Hash → List ℕ → ℕ → List ℕ
hashed Sha3_256 M n = widened 32 (sha3_256 M)
hashed Shake128 M n = widened n (shake128 M n)
hashed Shake256 M n = widened n (shake256 M n)

-- how many bytes of one output are the next message
abbrev pub carried : Hash → ℕ
carried Sha3_256 = 32
carried Shake128 = 16
carried Shake256 = 16

-- the length from `least` to `most` that the last two bytes of an output of n bytes choose
unfoldable pub chosen : List ℕ → ℕ → ℕ → ℕ → ℕ
chosen o n least most = least + (256 * get_or o (n - 2) 0 + get_or o (n - 1) 0) % (most - least + 1)

-- one hash more, and n hashes more
unfoldable pub linked : Hash → ℕ → ℕ → Link → Link
linked h least most k =
    let o = hashed h (take (carried h) k.output) k.next in
    record { output = o; length = k.next; next = chosen o k.next least most }

unfoldable pub links : Hash → ℕ → ℕ → ℕ → Link → Link
links h least most zero k = k
links h least most (suc n) k = linked h least most (links h least most n k)
