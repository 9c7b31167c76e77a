-- Bytes that are mixed in one after the other leave what the block of them does. Over the width w.
use mathlib.Core.Path.{◌≡◌, refl, sym, ap, ◌∙◌}
use mathlib.Core.List.{List, [], ◌∷◌, ◌++◌}
use Prim.Native.Nat.{ℕ, zero, suc, ◌+◌, ◌*◌, ◌/◌, ◌%◌, ◌^◌, ◌<◌}
use native.Mathlib.Nat.{zero-mul, mul_assoc, mul-suc, mul-le-mul_left, mod-lt, div-add-mod, div-lt_iff_lt-mul}
use native.Mathlib.Omega.{arith}
use lib.Bits.{bit_xor, xor_comm, xor_shifted, xor_zero_r}
use lib.ListN.{length, get_or, set, take, drop, replicate, length-append, length-drop, length-replicate}
use lib.Seq.{take_all, take-append_seam, drop-append-le, get_or-drop}
use Rattle.sponge.specs.Bytes.{lane_of, mixed}
use Rattle.sponge.proofs.Table.{length-table, table_ext, table-get_or}
use Rattle.sponge.proofs.Bytes.{sum_zero, lane_past}
use Rattle.sponge.proofs.Lanes.{place_suc, lane_front}
use Rattle.sponge.proofs.Taken.{number, lane_rest, mixed_lane}
use Rattle.absorber.specs.Absorbing.{AreBytes}

-- ---- lists of bytes

pub bytes-append : (p q : List ℕ) → AreBytes p → AreBytes q → AreBytes (p ++ q)
bytes-append [] q h k i = k i
bytes-append (x ∷ p) q h k zero = h 0
bytes-append (x ∷ p) q h k (suc i) = bytes-append p q (λ j. h (suc j)) k i

pub bytes_one : (x : ℕ) → x < 256 → AreBytes (x ∷ [])
bytes_one x h zero = h
bytes_one x h (suc i) = omega arith

pub bytes_zeros : (n : ℕ) → AreBytes (replicate n 0)
bytes_zeros zero i = omega arith
bytes_zeros (suc n) i = bytes-append (0 ∷ []) (replicate n 0) (bytes_one 0 (omega arith)) (bytes_zeros n) i

pub bytes_drop : (n : ℕ) (p : List ℕ) → AreBytes p → AreBytes (drop n p)
bytes_drop n p h i = rw (get_or-drop n p i 0) (h (n + i))

pub bytes_take : (n : ℕ) (p : List ℕ) → AreBytes p → AreBytes (take n p)
bytes_take zero p h i = omega arith
bytes_take (suc n) [] h i = omega arith
bytes_take (suc n) (x ∷ p) h zero = h 0
bytes_take (suc n) (x ∷ p) h (suc i) = bytes_take n p (λ j. h (suc j)) i

-- ---- bytes as a number, the lowest first

number_more : (l : List ℕ) (x : ℕ) → number (l ++ (x ∷ [])) ≡ number l + x * 2 ^ (8 * length l)
unfolding number
number_more [] x = omega arith
number_more (b ∷ l) x =
    let e : x * 2 ^ (8 * suc (length l)) ≡ x * 2 ^ (8 * length l) * 256 = rw (place_suc (length l)) (sym (mul_assoc x (2 ^ (8 * length l)) 256)) in
    omega (arith, number_more l x)

number_fits : (l : List ℕ) → AreBytes l → number l < 2 ^ (8 * length l)
unfolding number
number_fits [] h = omega arith
number_fits (b ∷ l) h = omega (arith, h 0, place_suc (length l), number_fits l (λ i. h (suc i)))

-- ---- zeros, and one byte more

pub mixed_zeros : (w : ℕ) (a : List ℕ) (n : ℕ) → length a ≡ 25 → mixed w a (replicate n 0) ≡ a
unfolding mixed lane_of
mixed_zeros w a n l =
    table_ext 25 _ (λ j. get_or a j 0)
    (λ j _. ap (bit_xor (get_or a j 0)) (sum_zero _ (w / 8) (λ m. ap (λ (x : ℕ). x * 2 ^ (8 * m)) (zero_at n (w / 8 * j + m)) ∙ zero-mul (2 ^ (8 * m))))
    ∙ xor_zero_r (get_or a j 0))
    ∙ table-get_or a 25 (omega arith)
    ∙ take_all 25 a (omega arith)
  where
    zero_at : (n i : ℕ) → get_or {A = ℕ} (replicate n 0) i 0 ≡ 0
    zero_at zero i = refl
    zero_at (suc n) zero = refl
    zero_at (suc n) (suc i) = zero_at n i

module _ (w : ℕ) (room : 0 < w / 8) where
  -- the byte x xored into the lane where p ends
  mixed_byte : (a p : List ℕ) (x : ℕ) → length p < 25 * (w / 8) → AreBytes p
      → set (mixed w a p) (length p / (w / 8)) (bit_xor (get_or (mixed w a p) (length p / (w / 8)) 0) (x * 2 ^ (8 * (length p % (w / 8))))) ≡ mixed w a (p ++ (x ∷ []))
  mixed_byte a p x h b =
      let v : ℕ = w / 8 in
      let l : ℕ = length p / v in
      let k : ℕ = 8 * (length p % v) in
      let D : List ℕ = drop (v * l) p in
      let e : v * l + length p % v ≡ length p = div-add-mod (length p) v in
      let m : length p % v < v = mod-lt (length p) room in
      let n : length (p ++ (x ∷ [])) ≡ length p + 1 = length-append p (x ∷ []) in
      let d : length D ≡ length p % v = omega (arith, length-drop (v * l) p) in
      let q : drop (v * l) (p ++ (x ∷ [])) ≡ D ++ (x ∷ []) = drop-append-le (v * l) p (x ∷ []) (omega arith) in
      let f : number D < 2 ^ k = rw d at (number_fits D (bytes_drop (v * l) p b)) in
      mixed_lane w a p (p ++ (x ∷ [])) l (x * 2 ^ k) ((div-lt_iff_lt-mul room).1 h)
      (λ j i. ap (λ (y : List ℕ). lane_of w y j) (sym (take-append_seam p (x ∷ []))) ∙ lane_front w room (p ++ (x ∷ [])) (length p) j (omega (arith, mul-le-mul_left v i, mul-suc v j)))
      (λ j i. lane_past w p j (omega (arith, mul-le-mul_left v i, mul-suc v l)) ∙ sym (lane_past w (p ++ (x ∷ [])) j (omega (arith, mul-le-mul_left v i, mul-suc v l))))
      (ap (λ (y : ℕ). bit_xor y (x * 2 ^ k)) (sym (lane_rest w p l (v * l) (number D) refl (omega arith) refl))
      ∙ xor_comm (number D) (x * 2 ^ k)
      ∙ xor_shifted x k (number D) f
      ∙ lane_rest w (p ++ (x ∷ [])) l (v * l) (x * 2 ^ k + number D) refl (omega arith) (rw (q, number_more D x, d) (omega arith)))

  -- at byte n of a state
  pub mixed_at : (a : List ℕ) (n x : ℕ) → length a ≡ 25 → n < 25 * (w / 8)
      → set a (n / (w / 8)) (bit_xor (get_or a (n / (w / 8)) 0) (x * 2 ^ (8 * (n % (w / 8))))) ≡ mixed w a (replicate n 0 ++ (x ∷ []))
  mixed_at a n x l h =
      rw (length-replicate {A = ℕ} n 0, mixed_zeros w a n l) at (mixed_byte a (replicate n 0) x (rw (length-replicate {A = ℕ} n 0) h) (bytes_zeros n))

  -- behind p, which is in already
  pub mixed_snoc : (a p : List ℕ) (x : ℕ) → length p < 25 * (w / 8) → AreBytes p
      → mixed w (mixed w a p) (replicate (length p) 0 ++ (x ∷ [])) ≡ mixed w a (p ++ (x ∷ []))
  mixed_snoc a p x h b = sym (mixed_at (mixed w a p) (length p) x (length-mixed w a p) h) ∙ mixed_byte a p x h b
    where
      length-mixed : (w : ℕ) (a b : List ℕ) → length (mixed w a b) ≡ 25
      length-mixed w a b = unfold mixed in length-table 25 _
