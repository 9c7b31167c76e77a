-- Bytes and lanes.
use mathlib.Core.Path.{◌≡◌, refl, sym, ap, ◌∙◌}
use mathlib.Core.List.{List}
use Prim.Native.Nat.{ℕ, zero, suc, ◌+◌, ◌*◌, ◌/◌, ◌%◌, ◌^◌, ◌≤◌, ◌<◌}
use native.Mathlib.Nat.{add-zero, zero-mul, mul-add-div, mul-add-mod_self_left, div-eq_of_lt, mod-eq_of_lt}
use native.Mathlib.Omega.{arith}
use lib.ListN.{length, get_or, get_or-eq_default}
use Rattle.keccak.specs.Lanes.{sum}
use Rattle.sponge.specs.Bytes.{lane_of, byte_of}

-- ---- from bytes to lanes

pub sum_zero : (f : ℕ → ℕ) (n : ℕ) → ((m : ℕ) → f m ≡ 0) → sum f n ≡ 0
sum_zero f zero h = refl
sum_zero f (suc n) h = omega (arith, sum_zero f n h, h n)

-- a lane past the block's end is 0
pub lane_past : (w : ℕ) (b : List ℕ) (j : ℕ) → length b ≤ w / 8 * j → lane_of w b j ≡ 0
unfolding lane_of
lane_past w b j h =
    sum_zero (λ m. get_or b (w / 8 * j + m) 0 * 2 ^ (8 * m)) (w / 8)
    (λ m. ap (λ (x : ℕ). x * 2 ^ (8 * m)) (get_or-eq_default b 0 (omega arith)) ∙ zero-mul (2 ^ (8 * m)))

-- a lane of 64 bits is eight bytes
pub lane_64 : (b : List ℕ) (j : ℕ) → lane_of 64 b j ≡
    get_or b (8 * j) 0 + get_or b (8 * j + 1) 0 * 2 ^ 8 + get_or b (8 * j + 2) 0 * 2 ^ 16 + get_or b (8 * j + 3) 0 * 2 ^ 24
    + get_or b (8 * j + 4) 0 * 2 ^ 32 + get_or b (8 * j + 5) 0 * 2 ^ 40 + get_or b (8 * j + 6) 0 * 2 ^ 48 + get_or b (8 * j + 7) 0 * 2 ^ 56
unfolding lane_of
lane_64 b j = omega (arith, ap (λ (i : ℕ). get_or b i 0) (add-zero (8 * j)))

-- ---- from lanes to bytes

-- byte m of lane j is byte i of the state
pub byte_at : (w : ℕ) (a : List ℕ) (j i m : ℕ) → i ≡ w / 8 * j + m → m < w / 8 → get_or a j 0 / 2 ^ (8 * m) % 256 ≡ byte_of w a i
unfolding byte_of
byte_at w a j i m e h =
    let p : 0 < w / 8 = omega arith in
    let q : i / (w / 8) ≡ j = omega (arith, ap (λ (x : ℕ). x / (w / 8)) e, mul-add-div p j m, div-eq_of_lt h) in
    let r : i % (w / 8) ≡ m = omega (arith, ap (λ (x : ℕ). x % (w / 8)) e, mul-add-mod_self_left (w / 8) j m, mod-eq_of_lt h) in
    rw (q, r)

-- its lowest byte
pub byte_low : (w : ℕ) (a : List ℕ) (j : ℕ) → 0 < w / 8 → get_or a j 0 % 256 ≡ byte_of w a (w / 8 * j)
byte_low w a j h = omega (arith, byte_at w a j (w / 8 * j) 0 (sym (add-zero (w / 8 * j))) h)
