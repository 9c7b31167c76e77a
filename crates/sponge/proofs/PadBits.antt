-- The blocks of bytes are FIPS 202's padded string of bits: for one block, and for a whole message.
use mathlib.Core.Path.{◌≡◌, refl, sym, ap, ◌∙◌}
use mathlib.Core.List.{List, [], ◌∷◌, ◌++◌, append-nil, append_assoc, flatten}
use Prim.Native.Nat.{ℕ, zero, suc, ◌+◌, ◌-◌, ◌*◌, ◌/◌, ◌%◌, ◌^◌, ◌≤◌, ◌<◌}
use native.Mathlib.Nat.{zero-add, suc-mul, zero-mul, mod_self, mod-eq_of_lt, add-mul-div_left, add-mul-mod_self_right, mul-add-mod_self_right, div-mul-le_self, lt-div-mul-add, mul_left_comm}
use native.Mathlib.Omega.{arith}
use lib.Pow.{pow_pos}
use lib.ListN.{length, take, drop, replicate, length-append, length-drop, length-replicate, replicate-append-replicate, take-append-drop}
use lib.Seq.{take-append-add, take_at, take-add, take_all}
use Rattle.sponge.specs.Pieces.{piece, blocks_of}
use Rattle.sponge.specs.Padding.{tail, padded}
use Rattle.sponge.specs.Hashes.{message_blocks}
use Rattle.sponge.specs.Pad.{byte_bits, bits, pad, padded_bits, Suffix}

bits-append : (p q : List ℕ) → bits (p ++ q) ≡ bits p ++ bits q
unfolding bits
bits-append [] q = refl
bits-append (b ∷ p) q = rw (bits-append p q) (sym (append_assoc (byte_bits b) (bits p) (bits q)))

length-bits : (p : List ℕ) → length (bits p) ≡ 8 * length p
unfolding bits
length-bits [] = refl
length-bits (b ∷ p) = omega (arith, length-bits p)

abbrev zero_bits : ℕ → List ℕ
zero_bits n = replicate n 0

bits_zeros : (n : ℕ) → bits (replicate n 0) ≡ zero_bits (8 * n)
unfolding bits
bits_zeros zero = refl
bits_zeros (suc n) =
    let e : 8 + 8 * n ≡ 8 * suc n = omega arith in
    ap (λ (l : List ℕ). zero_bits 8 ++ l) (bits_zeros n) ∙ replicate-append-replicate {A = ℕ} 8 (8 * n) 0 ∙ ap zero_bits e

-- ---- the bits after the piece: the suffix, and the padding

-- a bit below one that is added is as it was
kept : (i c s : ℕ) → (s + 2 ^ i * (c * 2)) / 2 ^ i % 2 ≡ s / 2 ^ i % 2
kept i c s = ap (λ (x : ℕ). x % 2) (add-mul-div_left s (c * 2) (pow_pos i)) ∙ add-mul-mod_self_right (s / 2 ^ i) c 2

-- bit 7 set where it was not
high : (s : ℕ) → s < 128 → byte_bits (s + 128) ≡ take 7 (byte_bits s) ++ (1 ∷ [])
high s h =
    let e : (s + 128) / 128 % 2 ≡ 1 = omega arith in
    cc (kept 0 64 s, kept 1 32 s, kept 2 16 s, kept 3 8 s, kept 4 4 s, kept 5 2 s, kept 6 1 s)

zeros_front : (k m : ℕ) → take k (zero_bits (k + m)) ≡ zero_bits k
zeros_front k m = rw (← replicate-append-replicate {A = ℕ} k m 0) (take_at (zero_bits k) (zero_bits m) k (length-replicate k 0))

zeros_join : (a b : ℕ) (l : List ℕ) → zero_bits a ++ (zero_bits b ++ l) ≡ zero_bits (a + b) ++ l
zeros_join a b l = sym (append_assoc (zero_bits a) (zero_bits b) l) ∙ ap (λ (z : List ℕ). z ++ l) (replicate-append-replicate a b 0)

-- a padding whose zeros fill a block has as many as the standard's
zeros_are : (x m j K : ℕ) → j < x → m + 2 + j ≡ K * x + x → (x - (m + 2) % x) % x ≡ j
zeros_are x m zero K h e =
    let r : m + 2 ≡ K * x + x = omega arith in
    let z : (m + 2) % x ≡ 0 = ap (λ (y : ℕ). y % x) r ∙ mul-add-mod_self_right K x x ∙ mod_self x in
    let d : x - (m + 2) % x ≡ x = omega arith in
    ap (λ (y : ℕ). y % x) d ∙ mod_self x
zeros_are x m (suc j) K h e =
    let r : m + 2 ≡ K * x + (x - suc j) = omega arith in
    let z : (m + 2) % x ≡ x - suc j = ap (λ (y : ℕ). y % x) r ∙ mul-add-mod_self_right K x (x - suc j) ∙ mod-eq_of_lt (omega arith) in
    let d : x - (m + 2) % x ≡ suc j = omega arith in
    ap (λ (y : ℕ). y % x) d ∙ mod-eq_of_lt h

module _ (u : List ℕ) (s : ℕ) (h : Suffix u s) where
  -- the byte where it is the block's last
  closed_byte : byte_bits (s + 128) ≡ u ++ 1 ∷ (zero_bits (6 - length u) ++ (1 ∷ []))
  closed_byte =
      let k = 6 - length u in
      let e : 7 ≡ length u + suc k = omega arith in
      let z : 7 - length u ≡ k + 1 = omega arith in
      let t : take 7 (byte_bits s) ≡ u ++ 1 ∷ zero_bits k =
      ap (take 7) h.bits_are
      ∙ ap (λ (n : ℕ). take n (u ++ 1 ∷ zero_bits (7 - length u))) e
      ∙ take-append-add u (1 ∷ zero_bits (7 - length u)) (suc k)
      ∙ ap (λ (n : ℕ). u ++ 1 ∷ take k (zero_bits n)) z
      ∙ ap (λ (l : List ℕ). u ++ 1 ∷ l) (zeros_front k 1) in
      high s h.small ∙ ap (λ (l : List ℕ). l ++ (1 ∷ [])) t ∙ append_assoc u (1 ∷ zero_bits k) (1 ∷ [])

  tail_bits : (n : ℕ) → bits (tail s n) ≡ u ++ 1 ∷ (zero_bits (8 * n + (6 - length u)) ++ (1 ∷ []))
  unfolding bits tail
  tail_bits zero = append-nil (byte_bits (s + 128)) ∙ rw zero-add closed_byte
  tail_bits (suc n) =
      let Z = zero_bits (7 - length u) in
      let e : 7 - length u + (8 * n + 7) ≡ 8 * suc n + (6 - length u) = omega arith in
      ap (λ (l : List ℕ). byte_bits s ++ l) (bits-append (zero_bits n) (128 ∷ []) ∙ ap (λ (l : List ℕ). l ++ bits (128 ∷ [])) (bits_zeros n))
      ∙ ap (λ (l : List ℕ). l ++ (zero_bits (8 * n) ++ (zero_bits 7 ++ (1 ∷ [])))) h.bits_are
      ∙ append_assoc u (1 ∷ Z) (zero_bits (8 * n) ++ (zero_bits 7 ++ (1 ∷ [])))
      ∙ ap (λ (l : List ℕ). u ++ 1 ∷ (Z ++ l)) (zeros_join (8 * n) 7 (1 ∷ []))
      ∙ ap (λ (l : List ℕ). u ++ 1 ∷ l) (zeros_join (7 - length u) (8 * n + 7) (1 ∷ []))
      ∙ ap (λ (k : ℕ). u ++ 1 ∷ (zero_bits k ++ (1 ∷ []))) e

  -- bits N, and the tail of a block that they and it fill: the end of block K
  ends : (R K n : ℕ) (N : List ℕ) → n < R → length N + 8 * suc n ≡ K * (8 * R) + 8 * R → N ++ bits (tail s n) ≡ padded_bits (8 * R) (N ++ u)
  unfolding pad
  ends R K n N v e =
      let l : length (N ++ u) ≡ length N + length u = length-append N u in
      let j : ℕ = 8 * n + (6 - length u) in
      let z : (8 * R - (length (N ++ u) + 2) % (8 * R)) % (8 * R) ≡ j = zeros_are (8 * R) (length (N ++ u)) j K (omega (arith, h.short)) (omega (arith, h.short)) in
      ap (λ (y : List ℕ). N ++ y) (tail_bits n)
      ∙ sym (append_assoc N u (1 ∷ (zero_bits j ++ (1 ∷ []))))
      ∙ ap (λ (y : ℕ). (N ++ u) ++ 1 ∷ (zero_bits y ++ (1 ∷ []))) (sym z)

  -- one block
  pub padded_bits_lem : (R : ℕ) (p : List ℕ) → length p < R → bits (padded R s p) ≡ padded_bits (8 * R) (bits p ++ u)
  unfolding padded
  padded_bits_lem R p v =
      bits-append p (tail s (R - 1 - length p))
      ∙ ends R 0 (R - 1 - length p) (bits p) (omega arith) (omega (arith, length-bits p, zero-mul (8 * R)))

flatten-append : (A B : List (List ℕ)) → flatten (A ++ B) ≡ flatten A ++ flatten B
unfolding flatten
flatten-append [] B = refl
flatten-append (x ∷ A) B = rw (flatten-append A B) (sym (append_assoc x (flatten A) (flatten B)))

-- the whole blocks together are the front of the message
whole_blocks : (R : ℕ) (M : List ℕ) (k : ℕ) → flatten (blocks_of R (λ p. p) M k) ≡ take (k * R) M
unfolding flatten blocks_of piece
whole_blocks R M zero = rw zero-mul
whole_blocks R M (suc k) =
    flatten-append (blocks_of R (λ p. p) M k) (piece R M k ∷ [])
    ∙ rw (whole_blocks R M k, append-nil, suc-mul) (sym (take-add (k * R) R M))

-- a message: its blocks together are FIPS 202's string P, the message's bits and the suffix padded
pub message_bits : (u : List ℕ) (s : ℕ) → Suffix u s → (R : ℕ) (M : List ℕ) → 0 < R → bits (flatten (message_blocks R s M)) ≡ padded_bits (8 * R) (bits M ++ u)
unfolding message_blocks padded piece flatten
message_bits u s h R M v =
    let K : ℕ = length M / R in
    let T : List ℕ = take (K * R) M in
    let D : List ℕ = drop (K * R) M in
    let n : ℕ = R - 1 - length D in
    let ld : length D ≡ length M - K * R = length-drop (K * R) M in
    let low : K * R ≤ length M = div-mul-le_self (length M) R in
    let up : length M < K * R + R = lt-div-mul-add v in
    let d : take R D ≡ D = take_all R D (omega arith) in
    ap bits (flatten-append (blocks_of R (λ p. p) M K) (padded R s (take R D) ∷ []))
    ∙ rw (whole_blocks R M K, d, append-nil)
    (ap bits (sym (append_assoc T D (tail s n)) ∙ ap (λ (l : List ℕ). l ++ tail s n) (take-append-drop (K * R) M))
    ∙ bits-append M (tail s n)
    ∙ ends u s h R K n (bits M) (omega arith) (omega (arith, length-bits M, mul_left_comm K 8 R)))

-- ---- the suffixes: SHA-3's, SHAKE's, and a frame bit

pub suffix_sha3 : Suffix (0 ∷ 1 ∷ []) 0x06
suffix_sha3 = record { short = omega arith; small = omega arith; bits_are = refl }

pub suffix_shake : Suffix (1 ∷ 1 ∷ 1 ∷ 1 ∷ []) 0x1F
suffix_shake = record { short = omega arith; small = omega arith; bits_are = refl }

pub suffix_frame : (f : ℕ) → f < 2 → Suffix (f ∷ []) (2 + f)
suffix_frame zero h = record { short = omega arith; small = omega arith; bits_are = refl }
suffix_frame (suc zero) h = record { short = omega arith; small = omega arith; bits_are = refl }
suffix_frame (suc (suc f)) h = absurd (omega arith)
