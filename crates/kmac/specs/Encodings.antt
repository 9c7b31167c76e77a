-- Integers and strings encoded in bytes (NIST SP 800-185, section 2.3).
use Rattle.std.specs.Prelude.{ℕ, zero, suc, ◌+◌, ◌-◌, ◌*◌, ◌%◌, ◌^◌, List, [], ◌∷◌, ◌++◌, ltb, length, replicate}
use Rattle.refusal.specs.Rows.{pick}
use Rattle.fields.specs.Numbers.{bytes_of}

-- the first n from k on with 2 ^ (8 n) > x, of k to k + m
unfoldable pub first_from : ℕ → ℕ → ℕ → ℕ
first_from x zero k = k
first_from x (suc m) k = pick (ltb x (2 ^ (8 * k))) k (first_from x m (k + 1))

-- the smallest positive n with 2 ^ (8 n) > x. The standard's x is below 2 ^ 2040, so that n is at most 255
unfoldable pub size : ℕ → ℕ
size x = first_from x 254 1

-- the bytes of x, and how many they are
unfoldable pub left_encode : ℕ → List ℕ
left_encode x = size x ∷ bytes_of (size x) x

unfoldable pub right_encode : ℕ → List ℕ
right_encode x = bytes_of (size x) x ++ (size x ∷ [])

-- a string behind its length in bits
unfoldable pub encode_string : List ℕ → List ℕ
encode_string S = left_encode (8 * length S) ++ S

-- z with zeros to a multiple of w bytes
unfoldable pub filled : ℕ → List ℕ → List ℕ
filled w z = z ++ replicate ((w - length z % w) % w) 0

unfoldable pub bytepad : List ℕ → ℕ → List ℕ
bytepad X w = filled w (left_encode w ++ X)
