-- Laws of xor that the kit does not have: it is associative, and so twice is not at all.
use mathlib.Core.Path.{◌≡◌, sym, ap, ◌∙◌}
use Prim.Native.Nat.{ℕ, ◌+◌, ◌*◌, ◌/◌, ◌^◌, ◌<◌}
use native.Mathlib.Omega.{arith}
use lib.Arith.{bin_ind}
use lib.Bits.{bit_xor, xor_add_and, xor_zero_l, xor_zero_r, xor_comm, xor_shifted, xor_shr, xor_self}

-- halves by induction, and the lowest bit is that of the sum
pub xor_assoc : (a b c : ℕ) → bit_xor (bit_xor a b) c ≡ bit_xor a (bit_xor b c)
xor_assoc =
    bin_ind (λ (n : ℕ). (b c : ℕ) → bit_xor (bit_xor n b) c ≡ bit_xor n (bit_xor b c)) (λ b c. ap (λ (x : ℕ). bit_xor x c) (xor_zero_l b) ∙ sym (xor_zero_l (bit_xor b c)))
    (λ n ih b c.
    let l = xor_shr (bit_xor n b) c 1 ∙ ap (λ (x : ℕ). bit_xor x (c / 2)) (xor_shr n b 1) in
    let r = xor_shr n (bit_xor b c) 1 ∙ ap (bit_xor (n / 2)) (xor_shr b c 1) in
    omega (arith, l ∙ ih (b / 2) (c / 2) ∙ sym r, xor_add_and (bit_xor n b) c, xor_add_and n b, xor_add_and n (bit_xor b c), xor_add_and b c))

pub xor_twice : (a b : ℕ) → bit_xor (bit_xor a b) b ≡ a
xor_twice a b = rw (xor_assoc, xor_self, xor_zero_r)

-- bit k above lower ones
pub xor_above : (x k : ℕ) → x < 2 ^ k → bit_xor x (2 ^ k) ≡ x + 2 ^ k
xor_above x k h =
    let e : 1 * 2 ^ k ≡ 2 ^ k = omega arith in
    let f : bit_xor (2 ^ k) x ≡ 2 ^ k + x = rw e at (xor_shifted 1 k x h) in
    xor_comm x (2 ^ k) ∙ omega (arith, f)
