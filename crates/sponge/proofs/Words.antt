-- A lane of 64 bits and the eight bytes that std reads and writes it by.
use mathlib.Core.Path.{◌≡◌, refl, sym, ap, ◌∙◌}
use mathlib.Core.List.{List, [], ◌∷◌, ◌++◌, append_assoc}
use Prim.Native.Nat.{ℕ, zero, suc, ◌+◌, ◌-◌, ◌*◌, ◌/◌, ◌%◌, ◌^◌, ◌≤◌, ◌<◌}
use native.Mathlib.Nat.{not-suc-le-zero, le_of_suc-le-suc, mul-suc}
use native.Mathlib.Omega.{arith}
use lib.ListN.{length, get_or, take, drop, set, replicate}
use lib.Seq.{drop-drop, get_or-take, get_or-drop, get_or-append-add, set_at, drop-cons, drop-append-le}
use Rattle.std.specs.Int.{w64, from_le_bytes, to_le_bytes}
use Rattle.std.specs.Simd.{first_chunks}
use Rattle.sponge.specs.Table.{table}
use Rattle.sponge.specs.Bytes.{lane_of, byte_of}
use Rattle.sponge.proofs.Table.{length-table}
use Rattle.sponge.proofs.Pieces.{laid}
use Rattle.sponge.proofs.Bytes.{lane_64, byte_at, byte_low}
use Rattle.sponge.proofs.Padding.{append-same}

-- ---- from bytes to a lane

-- eight bytes that stand at lane j of a block are that lane
pub le_lane : (b l : List ℕ) (j : ℕ) → ((m : ℕ) → m < 8 → get_or l m 0 ≡ get_or b (8 * j + m) 0) → from_le_bytes w64 l ≡ lane_of 64 b j
le_lane b l j h =
    let at : (m : ℕ) → m < 8 → get_or l m 0 ≡ get_or b (8 * j + m) 0 = h in
    let z : 8 * j + 0 ≡ 8 * j = omega arith in
    let h0 : get_or l 0 0 ≡ get_or b (8 * j) 0 = h 0 (omega arith) ∙ ap (λ (i : ℕ). get_or b i 0) z in
    rw lane_64
    (omega (arith, h0, h 1 (omega arith), h 2 (omega arith), h 3 (omega arith), h 4 (omega arith), h 5 (omega arith), h 6 (omega arith), h 7 (omega arith)))

chunk_at : (n k : ℕ) (b d : List ℕ) (j : ℕ) → j < k → get_or (first_chunks n k b) j d ≡ take n (drop (n * j) b)
chunk_at n zero b d j h = absurd (not-suc-le-zero h)
chunk_at n (suc k) b d zero h = let e : n * 0 ≡ 0 = omega arith in rw e refl
chunk_at n (suc k) b d (suc j) h =
    let e : n + n * j ≡ n * suc j = omega (arith, mul-suc n j) in
    chunk_at n k (drop n b) d j (le_of_suc-le-suc h) ∙ rw (drop-drop, e) refl

-- the j-th of a block's parts of eight bytes is its lane j
pub chunk_lane : (b d : List ℕ) (C : List (List ℕ)) (k j x : ℕ) → C ≡ first_chunks 8 k b → j < k → x ≡ from_le_bytes w64 (get_or C j d) → x ≡ lane_of 64 b j
chunk_lane b d C k j x c h e =
    let part : List ℕ = take 8 (drop (8 * j) b) in
    let p : get_or C j d ≡ part = ap (λ (P : List (List ℕ)). get_or P j d) c ∙ chunk_at 8 k b d j h in
    e ∙ ap (from_le_bytes w64) p
    ∙ le_lane b part j (λ m l. get_or-take 8 (drop (8 * j) b) m 0 l ∙ get_or-drop (8 * j) b m 0)

-- ---- from lanes to bytes

-- the bytes of lane n follow those of the lanes before it
lane_bytes : (a : List ℕ) (n : ℕ) → table (8 * n) (byte_of 64 a) ++ to_le_bytes w64 (get_or a n 0) ≡ table (8 * (n + 1)) (byte_of 64 a)
unfolding table
lane_bytes a n =
    let f : ℕ → ℕ = byte_of 64 a in
    let i : ℕ = 8 * n in
    let e : 8 * (n + 1) ≡ suc (suc (suc (suc (suc (suc (suc (suc i))))))) = omega arith in
    let b : (m q : ℕ) → q ≡ i + m → m < 8 → get_or a n 0 / 2 ^ (8 * m) % 256 ≡ f q = λ m q s l. byte_at 64 a n q m s l in
    let b0 : get_or a n 0 % 256 ≡ f i = byte_low 64 a n (omega arith) in
    let b1 : get_or a n 0 / 2 ^ 8 % 256 ≡ f (suc i) = b 1 _ (omega arith) (omega arith) in
    let b2 : get_or a n 0 / 2 ^ 16 % 256 ≡ f (suc (suc i)) = b 2 _ (omega arith) (omega arith) in
    let b3 : get_or a n 0 / 2 ^ 24 % 256 ≡ f (suc (suc (suc i))) = b 3 _ (omega arith) (omega arith) in
    let b4 : get_or a n 0 / 2 ^ 32 % 256 ≡ f (suc (suc (suc (suc i)))) = b 4 _ (omega arith) (omega arith) in
    let b5 : get_or a n 0 / 2 ^ 40 % 256 ≡ f (suc (suc (suc (suc (suc i))))) = b 5 _ (omega arith) (omega arith) in
    let b6 : get_or a n 0 / 2 ^ 48 % 256 ≡ f (suc (suc (suc (suc (suc (suc i)))))) = b 6 _ (omega arith) (omega arith) in
    let b7 : get_or a n 0 / 2 ^ 56 % 256 ≡ f (suc (suc (suc (suc (suc (suc (suc i))))))) = b 7 _ (omega arith) (omega arith) in
    (λ t. table i f ++ (b0 t ∷ b1 t ∷ b2 t ∷ b3 t ∷ b4 t ∷ b5 t ∷ b6 t ∷ b7 t ∷ [])) ∙ rw e (simp append_assoc)

-- one lane more is stored over d
pub lane_stored : (a d r X : List ℕ) (j n : ℕ) → n ≡ 8 → r ≡ table (8 * j) (byte_of 64 a) ++ drop (8 * j) d → X ≡ to_le_bytes w64 (get_or a j 0)
    → take (8 * j) r ++ (X ++ drop n (drop (8 * j) r)) ≡ table (8 * (j + 1)) (byte_of 64 a) ++ drop (8 * (j + 1)) d
lane_stored a d r X j n l h x =
    laid (table (8 * j) (byte_of 64 a)) X d r (8 * j) n (8 * (j + 1)) h (length-table (8 * j) (byte_of 64 a)) (omega arith)
    ∙ rw (x, lane_bytes) refl

-- ---- what is left of a piece

zeros_at : (k n i : ℕ) → get_or (drop n (replicate {A = ℕ} k 0)) i 0 ≡ 0
zeros_at zero zero i = refl
zeros_at zero (suc n) i = refl
zeros_at (suc k) zero zero = refl
zeros_at (suc k) zero (suc i) = zeros_at k zero i
zeros_at (suc k) (suc n) i = zeros_at k n i

-- eight zeros whose first bytes are overwritten by p and then s
abbrev pub laid_out : List ℕ → ℕ → List ℕ
laid_out p s = set (p ++ drop (length p) (replicate 8 0)) (length p) s

module _ (p : List ℕ) (s : ℕ) (h : length p < 8) where
  laid_at : (m : ℕ) → get_or (laid_out p s) m 0 ≡ get_or (p ++ (s ∷ [])) m 0
  laid_at m =
      let z : List ℕ = replicate 8 0 in
      let e : drop (length p) z ≡ get_or z (length p) 0 ∷ drop (suc (length p)) z = drop-cons z (length p) 0 h in
      let f : laid_out p s ≡ p ++ (s ∷ drop (suc (length p)) z) =
      ap (λ (t : List ℕ). set (p ++ t) (length p) s) e ∙ set_at p (get_or z (length p) 0) (drop (suc (length p)) z) s (length p) refl in
      ap (λ (l : List ℕ). get_or l m 0) f ∙ append-same p _ _ m tail
    where
      tail : (d : ℕ) → m ≡ length p + d → get_or (s ∷ drop (suc (length p)) (replicate 8 0)) d 0 ≡ get_or (s ∷ []) d 0
      tail zero e = refl
      tail (suc d) e = zeros_at 8 (suc (length p)) d

  -- the lane where a piece ends
  pub rest_lane : (b : List ℕ) → p ≡ drop (length b / 8 * 8) b → from_le_bytes w64 (laid_out p s) ≡ lane_of 64 (b ++ (s ∷ [])) (length b / 8)
  rest_lane b e =
      let k : ℕ = length b / 8 in
      let n : k * 8 ≡ 8 * k = omega arith in
      let r : 8 * k ≤ length b = omega arith in
      let f : drop (8 * k) (b ++ (s ∷ [])) ≡ p ++ (s ∷ []) = drop-append-le (8 * k) b (s ∷ []) r ∙ rw (e, n) refl in
      le_lane (b ++ (s ∷ [])) (laid_out p s) k
      (λ m l. laid_at m ∙ ap (λ (t : List ℕ). get_or t m 0) (sym f) ∙ get_or-drop (8 * k) (b ++ (s ∷ [])) m 0)

  -- its last bit is not set
  pub rest_low : (b : List ℕ) → p ≡ drop (length b / 8 * 8) b → ((i : ℕ) → get_or b i 0 < 256) → s < 128 → from_le_bytes w64 (laid_out p s) < 2 ^ 63
  rest_low b e r k =
      let q : (i : ℕ) → get_or p i 0 < 256 = λ i. rw (e, get_or-drop) (r (length b / 8 * 8 + i)) in
      let at : (m : ℕ) → get_or (laid_out p s) m 0 < 256 = λ m. rw laid_at (each p m q) in
      let top : get_or (laid_out p s) 7 0 < 128 = rw laid_at last in
      omega (arith, at 0, at 1, at 2, at 3, at 4, at 5, at 6, top)
    where
      each : (p : List ℕ) (m : ℕ) → ((i : ℕ) → get_or p i 0 < 256) → get_or (p ++ (s ∷ [])) m 0 < 256
      each [] zero q = omega arith
      each [] (suc m) q = omega arith
      each (x ∷ p) zero q = q 0
      each (x ∷ p) (suc m) q = each p m (λ i. q (suc i))

      small : (d : ℕ) → get_or (s ∷ []) d 0 < 128
      small zero = k
      small (suc d) = omega arith

      last : get_or (p ++ (s ∷ [])) 7 0 < 128
      last =
          let d : ℕ = 7 - length p in
          let e : length p + d ≡ 7 = omega arith in
          let g : get_or (p ++ (s ∷ [])) (length p + d) 0 < 128 = rw get_or-append-add (small d) in
          rw e at g
