-- Bytes and lanes are one-to-one: what is laid into lanes is read again, and the other way round. Over the width w.
use mathlib.Core.Path.{◌≡◌, refl, sym, ap, ap₂, ◌∙◌}
use mathlib.Core.List.{List}
use Prim.Native.Nat.{ℕ, zero, suc, ◌+◌, ◌*◌, ◌/◌, ◌%◌, ◌^◌, ◌≤◌, ◌<◌}
use native.Mathlib.Nat.{not-suc-le-zero, mul_assoc, mul_comm, mul-suc, mul-le-mul_left, zero-lt-suc, mod-eq_of_lt, mod-lt, div-add-mod, div-lt_iff_lt-mul, div-div-eq-div-mul, mod-one}
use native.Mathlib.Omega.{arith}
use lib.Arith.{mod-mul}
use lib.Pow.{pow_pos, pow-add}
use lib.Bits.{bit_xor, xor_zero_l}
use lib.ListN.{length, get_or, take, replicate, get_or-replicate}
use lib.Seq.{ext_get_or, get_or-take}
use Rattle.keccak.specs.Lanes.{sum}
use Rattle.sponge.specs.Table.{table}
use Rattle.sponge.specs.Bytes.{lane_of, mixed, byte_of, bytes}
use Rattle.sponge.proofs.Table.{length-table, table_at, table_ext}
use Rattle.sponge.proofs.Bytes.{byte_at}

-- ---- sums

pub sum_ext : (f g : ℕ → ℕ) (k : ℕ) → ((m : ℕ) → m < k → f m ≡ g m) → sum f k ≡ sum g k
sum_ext f g zero h = refl
sum_ext f g (suc k) h = ap₂ (λ (x y : ℕ). x + y) (sum_ext f g k (λ m l. h m (omega arith))) (h k (omega arith))

-- a sum by its first term
sum_first : (f : ℕ → ℕ) (k : ℕ) → sum f (suc k) ≡ f 0 + sum (λ m. f (suc m)) k
sum_first f zero = omega arith
sum_first f (suc k) = omega (arith, sum_first f k)

-- ---- digits to the base 256

pub place_suc : (m : ℕ) → 2 ^ (8 * suc m) ≡ 2 ^ (8 * m) * 256
place_suc m = let e : 8 * suc m ≡ 8 * m + 8 = omega arith in rw e (pow-add 2 (8 * m) 8)

-- x is the sum of its digits
digits_sum : (x k : ℕ) → sum (λ m. x / 2 ^ (8 * m) % 256 * 2 ^ (8 * m)) k ≡ x % 2 ^ (8 * k)
digits_sum x zero = sym (mod-one x)
digits_sum x (suc k) =
    let e : x % (256 * 2 ^ (8 * k)) ≡ x / 2 ^ (8 * k) % 256 * 2 ^ (8 * k) + x % 2 ^ (8 * k) = mod-mul x (zero-lt-suc 255) (pow_pos (8 * k)) in
    rw (place_suc k, mul_comm (2 ^ (8 * k)) 256, e) (omega (arith, digits_sum x k))

-- a number by its lowest digit
pub low_digit : (d : ℕ → ℕ) (k : ℕ) → sum (λ m. d m * 2 ^ (8 * m)) (suc k) ≡ d 0 + 256 * sum (λ m. d (suc m) * 2 ^ (8 * m)) k
low_digit d zero = omega arith
low_digit d (suc k) =
    let e : d (suc k) * 2 ^ (8 * suc k) ≡ d (suc k) * 2 ^ (8 * k) * 256 =
    rw (place_suc k) (sym (mul_assoc (d (suc k)) (2 ^ (8 * k)) 256)) in
    omega (arith, low_digit d k)

-- a sum of digits has them
digit : (d : ℕ → ℕ) → ((m : ℕ) → d m < 256) → (k i : ℕ) → i < k → sum (λ m. d m * 2 ^ (8 * m)) k / 2 ^ (8 * i) % 256 ≡ d i
digit d h zero i l = absurd (not-suc-le-zero l)
digit d h (suc k) zero l = rw (low_digit d k) (omega (arith, h 0))
digit d h (suc k) (suc i) l =
    let s : ℕ = sum (λ m. d (suc m) * 2 ^ (8 * m)) k in
    let q : (d 0 + 256 * s) / 256 ≡ s = omega (arith, h 0) in
    rw (low_digit d k, place_suc i, mul_comm (2 ^ (8 * i)) 256, ← div-div-eq-div-mul (d 0 + 256 * s) 256 (2 ^ (8 * i)), q)
    (digit (λ m. d (suc m)) (λ m. h (suc m)) k i (omega arith))

-- ---- bytes and lanes

module _ (w : ℕ) (room : 0 < w / 8) where
  -- byte m of lane j lies among the bytes of 25 lanes
  among : (j m : ℕ) → j < 25 → m < w / 8 → w / 8 * j + m < 25 * (w / 8)
  among j m h k = omega (arith, mul-le-mul_left (w / 8) h, mul-suc (w / 8) j, mul_comm (w / 8) 25)

  -- the bytes of a block that fills the state are those of its lanes
  pub bytes_of_lanes : (b : List ℕ) → length b ≡ 25 * (w / 8) → ((i : ℕ) → get_or b i 0 < 256) → bytes w (table 25 (lane_of w b)) ≡ b
  unfolding bytes lane_of
  bytes_of_lanes b l h =
      ext_get_or 0 _ b (length-table (25 * (w / 8)) _ ∙ sym l)
      (λ i k. byte_is i (omega (arith, length-table (25 * (w / 8)) (byte_of w (table 25 (lane_of w b))))))
    where
      byte_is : (i : ℕ) → i < 25 * (w / 8) → get_or (table (25 * (w / 8)) (byte_of w (table 25 (lane_of w b)))) i 0 ≡ get_or b i 0
      byte_is i k =
          let j : ℕ = i / (w / 8) in
          let m : ℕ = i % (w / 8) in
          let e : w / 8 * j + m ≡ i = div-add-mod i (w / 8) in
          let n : m < w / 8 = mod-lt i room in
          table_at (25 * (w / 8)) _ i k
          ∙ sym (byte_at w (table 25 (lane_of w b)) j i m (sym e) n)
          ∙ ap (λ (x : ℕ). x / 2 ^ (8 * m) % 256) (table_at 25 (lane_of w b) j ((div-lt_iff_lt-mul room).1 k))
          ∙ digit (λ q. get_or b (w / 8 * j + q) 0) (λ q. h (w / 8 * j + q)) (w / 8) m n
          ∙ ap (λ (x : ℕ). get_or b x 0) e

  -- the lanes of a state's bytes are the state's
  pub lanes_of_bytes : (a : List ℕ) → length a ≡ 25 → ((j : ℕ) → get_or a j 0 < 2 ^ (8 * (w / 8))) → table 25 (lane_of w (bytes w a)) ≡ a
  unfolding bytes lane_of
  lanes_of_bytes a l h =
      ext_get_or 0 _ a (length-table 25 _ ∙ sym l) (λ j k. lane_is j (omega (arith, length-table 25 (lane_of w (bytes w a)))))
    where
      lane_is : (j : ℕ) → j < 25 → get_or (table 25 (lane_of w (bytes w a))) j 0 ≡ get_or a j 0
      lane_is j k =
          table_at 25 (lane_of w (bytes w a)) j k
          ∙ sum_ext _ _ (w / 8)
          (λ m n. ap (λ (x : ℕ). x * 2 ^ (8 * m)) (table_at (25 * (w / 8)) (byte_of w a) (w / 8 * j + m) (among j m k n) ∙ sym (byte_at w a j (w / 8 * j + m) m refl n)))
          ∙ digits_sum (get_or a j 0) (w / 8)
          ∙ mod-eq_of_lt (h j)

  -- a lane that lies in the first n bytes of a block is theirs
  pub lane_front : (b : List ℕ) (n j : ℕ) → w / 8 * j + w / 8 ≤ n → lane_of w (take n b) j ≡ lane_of w b j
  unfolding lane_of
  lane_front b n j h =
      sum_ext _ _ (w / 8) (λ m k. ap (λ (x : ℕ). x * 2 ^ (8 * m)) (get_or-take n b (w / 8 * j + m) 0 (omega arith)))

  -- a block that is xored into the zero state is read into its lanes
  pub lanes_read : (b : List ℕ) → mixed w (replicate 25 0) (take (25 * (w / 8)) b) ≡ table 25 (lane_of w b)
  unfolding mixed
  lanes_read b =
      table_ext 25 _ _
      (λ j k. ap (λ (x : ℕ). bit_xor x (lane_of w (take (25 * (w / 8)) b) j)) (get_or-replicate 25 j 0 0 k)
      ∙ xor_zero_l (lane_of w (take (25 * (w / 8)) b) j)
      ∙ lane_front b (25 * (w / 8)) j (omega (arith, mul-le-mul_left (w / 8) k, mul-suc (w / 8) j, mul_comm (w / 8) 25)))
