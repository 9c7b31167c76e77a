-- Laws of numbers of k bytes, each once over k.
use mathlib.Core.Path.{◌≡◌, refl, sym, ap, ap₂, ◌∙◌}
use mathlib.Core.List.{List, [], ◌∷◌, ◌++◌, append_assoc, append-nil}
use Prim.Native.Nat.{ℕ, zero, suc, ◌+◌, ◌-◌, ◌*◌, ◌/◌, ◌%◌, ◌^◌, ◌≤◌, ◌<◌}
use native.Mathlib.Nat.{add-zero, zero-add, add-suc, mul_assoc, add-mul, div-div-eq-div-mul, div-one, pow-succ', pow-suc}
use native.Mathlib.Omega.{arith}
use lib.ListN.{length, get_or, take, drop, length-append, length-drop}
use lib.Seq.{sets, take-suc, get_or-drop, get_or_at, get_or-append-add}
use Rattle.std.proofs.lemmas.List.{get_or-take}
use Rattle.std.specs.Int.{byte_at, byte_worth, bytes_high_first, sum_through}
use Rattle.fields.specs.Numbers.{number_at, bytes_of}

-- ---- a number in two parts

-- a number of m + n bytes is its first m and its last n
pub number_join : (m n : ℕ) (b : List ℕ) (at : ℕ) → number_at (m + n) b at ≡ number_at m b at * 256 ^ n + number_at n b (at + m)
unfolding number_at
number_join m zero b at = rw (add-zero m) (omega arith)
number_join m (suc n) b at =
    let e : at + (m + n) ≡ at + m + n = omega arith in
    rw (add-suc m n, number_join m n b at, e, add-mul, mul_assoc, pow-suc 256 n) (omega arith)

pub length-bytes_of : (k n : ℕ) → length (bytes_of k n) ≡ k
unfolding bytes_of
length-bytes_of zero n = refl
length-bytes_of (suc k) n = omega (arith, length-append (bytes_of k (n / 256)) (n % 256 ∷ []), length-bytes_of k (n / 256))

pub bytes_join : (m n x : ℕ) → bytes_of (m + n) x ≡ bytes_of m (x / 256 ^ n) ++ bytes_of n x
unfolding bytes_of
bytes_join m zero x = rw (add-zero m, div-one x) (sym (append-nil (bytes_of m x)))
bytes_join m (suc n) x =
    rw (add-suc m n, bytes_join m n (x / 256), div-div-eq-div-mul, pow-succ' 256 n)
    (append_assoc (bytes_of m (x / (256 * 256 ^ n))) (bytes_of n (x / 256)) (x % 256 ∷ []))

-- two bytes
pub number_two : (b : List ℕ) (at : ℕ) → number_at 2 b at ≡ get_or b at 0 * 256 + get_or b (at + 1) 0
unfolding number_at
number_two b at = rw add-zero (omega arith)

-- ---- std's words for them, which `from_be_bytes` and `to_be_bytes` promise

worth_is : (i b : ℕ) → byte_worth i b ≡ b * 256 ^ i
worth_is zero b = omega arith
worth_is (suc i) b = refl

-- the first j + 1 bytes of c, each at its place among k + 1
weighed : (k j : ℕ) (c : List ℕ) → j ≤ k → sum_through (λ i. byte_worth (k - i) (get_or c i 0)) j ≡ number_at (suc j) c 0 * 256 ^ (k - j)
unfolding number_at
weighed k zero c h = let e : k - 0 ≡ k = omega arith in rw (e, worth_is k (get_or c 0 0)) (omega arith)
weighed k (suc j) c h =
    let e : k - j ≡ suc (k - suc j) = omega arith in
    let n : 0 + suc j ≡ suc j = omega arith in
    rw (weighed k j c (omega arith), worth_is (k - suc j) (get_or c (suc j) 0), e, pow-succ' 256 (k - suc j), n) (moved (number_at (suc j) c 0) _ _)
  where
    moved : (x y p : ℕ) → x * (256 * p) + y * p ≡ (x * 256 + y) * p
    moved x y p = rw (add-mul (x * 256) y p, mul_assoc x 256 p) refl

-- the part of b from `at` on holds the same number
number_part : (k n : ℕ) (b : List ℕ) (at : ℕ) → k ≤ n → number_at k (take n (drop at b)) 0 ≡ number_at k b at
unfolding number_at
number_part zero n b at h = refl
number_part (suc k) n b at h =
    let e : get_or (take n (drop at b)) (0 + k) 0 ≡ get_or b (at + k) 0 = rw zero-add (get_or-take n (drop at b) k 0 h ∙ get_or-drop at b k 0) in
    rw (number_part k n b at (omega arith), e)

-- the number in the k + 1 bytes c of b
pub read_is : (k : ℕ) (b c : List ℕ) (at n : ℕ) → c ≡ take (at + suc k - at) (drop at b) → n ≡ sum_through (λ i. byte_worth (k - i) (get_or c i 0)) k → n ≡ number_at (suc k) b at
read_is k b c at n e f =
    let z : k - k ≡ 0 = omega arith in
    let w : at + suc k - at ≡ suc k = omega arith in
    let g : number_at (suc k) c 0 ≡ number_at (suc k) b at = rw (e, w) (number_part (suc k) (suc k) b at (omega arith)) in
    f ∙ weighed k k c (omega arith) ∙ rw (z, g) (omega arith)

-- the k bytes of n
pub written_is : (k n : ℕ) → bytes_high_first k n ≡ bytes_of k n
written_is zero n = unfold bytes_of in refl
written_is (suc k) n = ap₂ (λ (x : ℕ) (l : List ℕ). x ∷ l) (top k) (written_is k n) ∙ sym joined
  where
    top : (k : ℕ) → byte_at k n ≡ n / 256 ^ k % 256
    top zero = rw div-one
    top (suc k) = refl

    joined : bytes_of (suc k) n ≡ n / 256 ^ k % 256 ∷ bytes_of k n
    joined = let e : suc k ≡ 1 + k = omega arith in rw (e, bytes_join 1 k n) (unfold bytes_of in refl)

-- n stored as the bytes s
pub put_is : (k n : ℕ) (b d s : List ℕ) (at : ℕ) → s ≡ bytes_high_first k n → d ≡ sets b at s → d ≡ sets b at (bytes_of k n)
put_is k n b d s at e f = f ∙ ap (sets b at) (e ∙ written_is k n)

-- ---- numbers and bytes are one-to-one

-- a number whose bytes stand in a list is read there
pub number_bytes : (k n : ℕ) (p q : List ℕ) (at : ℕ) → n < 256 ^ k → length p ≡ at → number_at k (p ++ (bytes_of k n ++ q)) at ≡ n
unfolding number_at bytes_of
number_bytes zero n p q at h e = omega arith
number_bytes (suc k) n p q at h e =
    let high : List ℕ = bytes_of k (n / 256) in
    let l : n / 256 < 256 ^ k = omega (arith, pow-suc 256 k) in
    let low : get_or (p ++ (high ++ (n % 256 ∷ q))) (at + k) 0 ≡ n % 256 =
    rw (← e, get_or-append-add p (high ++ (n % 256 ∷ q)) k 0) (get_or_at high (n % 256) q 0 k (length-bytes_of k (n / 256))) in
    rw (append_assoc high (n % 256 ∷ []) q, number_bytes k (n / 256) p (n % 256 ∷ q) at l e, low) (omega arith)

-- the bytes of a number that is read are those that it was read from
pub bytes_number : (k : ℕ) (b : List ℕ) (at : ℕ) → at + k ≤ length b → ((i : ℕ) → get_or b i 0 < 256) → bytes_of k (number_at k b at) ≡ take k (drop at b)
unfolding bytes_of number_at
bytes_number zero b at h l = refl
bytes_number (suc k) b at h l =
    let x : ℕ = get_or b (at + k) 0 in
    let q : (number_at k b at * 256 + x) / 256 ≡ number_at k b at = omega (arith, l (at + k)) in
    let r : (number_at k b at * 256 + x) % 256 ≡ x = omega (arith, l (at + k)) in
    let n : k < length (drop at b) = omega (arith, length-drop at b) in
    rw (q, r, bytes_number k b at (omega arith) l, take-suc (drop at b) k 0 n, get_or-drop at b k 0)
