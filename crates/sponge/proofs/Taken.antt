-- What is mixed into a state lane by lane: whole lanes as they are, and of a piece that is shorter than a block what is left of it
-- with the byte s after it as one lane, and the last bit of the block. Over the width w.
use mathlib.Core.Path.{◌≡◌, refl, sym, ap, ◌∙◌}
use mathlib.Core.List.{List, [], ◌∷◌, ◌++◌}
use mathlib.Core.Logic.{⊎_elim}
use Prim.Native.Nat.{ℕ, zero, suc, ◌+◌, ◌-◌, ◌*◌, ◌/◌, ◌^◌, ◌≤◌, ◌<◌}
use native.Mathlib.Nat.{zero-mul, add-mul, mul-suc, mul-le-mul_left, eq-or-lt_of_le, le_refl, not-suc-le-zero, le_of_suc-le-suc}
use native.Mathlib.Numerals.{add-one}
use native.Mathlib.Omega.{arith}
use lib.Pow.{pow-add}
use lib.Bits.{bit_xor, xor_zero_l, xor_zero_r}
use lib.ListN.{length, take, drop, get_or, set, length-take, length-drop, length-append}
use lib.Seq.{take_all, take-append-le, get_or-drop}
use Rattle.keccak.specs.Lanes.{sum}
use Rattle.sponge.specs.Bytes.{lane_of, mixed}
use Rattle.sponge.specs.Padding.{padded}
use Rattle.sponge.proofs.Xor.{xor_assoc, xor_above}
use Rattle.sponge.proofs.Table.{table_at, table_ext, table-get_or, table-set}
use Rattle.sponge.proofs.Bytes.{sum_zero, lane_past}
use Rattle.sponge.proofs.Padding.{length-padded, padded_other, padded_last}
use Rattle.sponge.proofs.Lanes.{sum_ext, low_digit, lane_front}

-- ---- lane after lane

-- x xored into lane l
pub mixed_lane : (w : ℕ) (a b c : List ℕ) (l x : ℕ) → l < 25 → ((j : ℕ) → j < l → lane_of w b j ≡ lane_of w c j) → ((j : ℕ) → l < j → lane_of w b j ≡ lane_of w c j)
    → bit_xor (lane_of w b l) x ≡ lane_of w c l → set (mixed w a b) l (bit_xor (get_or (mixed w a b) l 0) x) ≡ mixed w a c
unfolding mixed
mixed_lane w a b c l x h f g e =
    table-set 25 _ _ l _ h (λ j n. ap (bit_xor (get_or a j 0)) (f j n)) (λ j n. ap (bit_xor (get_or a j 0)) (g j n))
    (ap (λ (y : ℕ). bit_xor y x) (table_at 25 (λ j. bit_xor (get_or a j 0) (lane_of w b j)) l h) ∙ xor_assoc (get_or a l 0) (lane_of w b l) x ∙ ap (bit_xor (get_or a l 0)) e)

-- no lane is in
pub mixed_none : (w : ℕ) (a : List ℕ) → length a ≡ 25 → a ≡ mixed w a []
unfolding mixed
mixed_none w a l =
    sym (table_ext 25 _ (λ j. get_or a j 0) (λ j _. ap (bit_xor (get_or a j 0)) (lane_past w [] j (omega arith)) ∙ xor_zero_r (get_or a j 0))
    ∙ table-get_or a 25 (omega arith) ∙ take_all 25 a (omega arith))

-- the lanes of b before lane k are in, and now it is too
pub mixed_more : (w : ℕ) → 0 < w / 8 → (a b r : List ℕ) (k x : ℕ) → k < 25 → r ≡ mixed w a (take (w / 8 * k) b) → x ≡ lane_of w b k
    → set r k (bit_xor (get_or r k 0) x) ≡ mixed w a (take (w / 8 * (k + 1)) b)
mixed_more w room a b r k x h e y =
    let n : ℕ = w / 8 * k in
    let n' : ℕ = w / 8 * (k + 1) in
    let u : n' ≡ n + w / 8 = rw add-one (mul-suc (w / 8) k) in
    let in-front : (n j : ℕ) → w / 8 * j + w / 8 ≤ n → lane_of w (take n b) j ≡ lane_of w b j = lane_front w room b in
    let past : (n j : ℕ) → n ≤ w / 8 * j → lane_of w (take n b) j ≡ 0 = λ n j q. lane_past w (take n b) j (omega (arith, length-take n b)) in
    rw e
    (mixed_lane w a (take n b) (take n' b) k x h
    (λ j q. let i : w / 8 * j + w / 8 ≤ n = rw (← mul-suc (w / 8) j) (mul-le-mul_left (w / 8) q) in in-front n j i ∙ sym (in-front n' j (omega arith)))
    (λ j q. let i : n' ≤ w / 8 * j = rw add-one (mul-le-mul_left (w / 8) q) in past n j (omega arith) ∙ sym (past n' j i))
    (rw (past n k (le_refl n)) (xor_zero_l x ∙ y ∙ sym (in-front n' k (omega arith)))))

-- all of b is in
pub mixed_all : (w : ℕ) (a b r : List ℕ) (n : ℕ) → r ≡ mixed w a (take n b) → length b ≤ n → r ≡ mixed w a b
mixed_all w a b r n e h = rw (take_all n b h) at e

-- ---- the lane where a piece ends

-- bytes as a number, the lowest first
unfoldable pub number : List ℕ → ℕ
number [] = 0
number (b ∷ l) = b + 256 * number l

sum_number : (n : ℕ) (l : List ℕ) → length l ≤ n → sum (λ m. get_or l m 0 * 2 ^ (8 * m)) n ≡ number l
unfolding number
sum_number zero [] h = refl
sum_number zero (b ∷ l) h = absurd (not-suc-le-zero h)
sum_number (suc n) [] h = sum_zero _ (suc n) (λ m. zero-mul (2 ^ (8 * m)))
sum_number (suc n) (b ∷ l) h = low_digit (λ m. get_or (b ∷ l) m 0) n ∙ ap (λ (x : ℕ). b + 256 * x) (sum_number n l (le_of_suc-le-suc h))

pub lane_rest : (w : ℕ) (b : List ℕ) (j i x : ℕ) → i ≡ w / 8 * j → length b ≤ i + w / 8 → x ≡ number (drop i b) → x ≡ lane_of w b j
unfolding lane_of
lane_rest w b j i x e h f =
    rw (← e)
    (f ∙ sym (sum_ext _ _ (w / 8) (λ m _. ap (λ (y : ℕ). y * 2 ^ (8 * m)) (sym (get_or-drop i b m 0))) ∙ sum_number (w / 8) (drop i b) (omega (arith, length-drop i b))))

-- after the whole lanes of a piece, the lane k where it ends, with the byte s
pub mixed_rest : (w : ℕ) → 0 < w / 8 → (a p r : List ℕ) (s k x : ℕ) → r ≡ mixed w a (take (w / 8 * k) p) → w / 8 * k ≤ length p → length p < w / 8 * (k + 1)
    → k < 25 → x ≡ lane_of w (p ++ (s ∷ [])) k → set r k (bit_xor (get_or r k 0) x) ≡ mixed w a (p ++ (s ∷ []))
mixed_rest w room a p r s k x e h l n y =
    let e' : r ≡ mixed w a (take (w / 8 * k) (p ++ (s ∷ []))) = rw (take-append-le (w / 8 * k) p (s ∷ []) h) e in
    mixed_all w a (p ++ (s ∷ [])) _ (w / 8 * (k + 1)) (mixed_more w room a (p ++ (s ∷ [])) r k x n e' y) (omega (arith, length-append p (s ∷ [])))

-- a bound of that lane is one of each lane after it
pub rest_small : (w : ℕ) (b : List ℕ) (k l x n : ℕ) → x ≡ lane_of w b k → x < n → k ≤ l → length b ≤ w / 8 * (k + 1) → lane_of w b l < n
rest_small w b k l x n e h g m =
    ⊎_elim (λ q. rw (← q, ← e) h)
    (λ q. rw (lane_past w b l (omega (arith, mul-le-mul_left (w / 8) q, ap (λ (y : ℕ). w / 8 * y) (add-one k)))) (omega arith))
    (eq-or-lt_of_le g)

-- ---- the last bit

module _ (R s : ℕ) (p : List ℕ) (h : length p < R) where
  abbrev P : List ℕ
  P = padded R s p

  abbrev Q : List ℕ
  Q = p ++ (s ∷ [])

  sum_other : (v i : ℕ) → i + v ≤ R - 1 → sum (λ m. get_or Q (i + m) 0 * 2 ^ (8 * m)) v ≡ sum (λ m. get_or P (i + m) 0 * 2 ^ (8 * m)) v
  sum_other v i k = sum_ext _ _ v (λ m n. ap (λ (x : ℕ). x * 2 ^ (8 * m)) (sym (padded_other R s p h (i + m) (omega arith))))

  -- the block is mixed in: the piece and s first, and then the last bit of the lane l
  module _ (w v : ℕ) (d : w / 8 ≡ suc v) (a : List ℕ) (l : ℕ) (e : R ≡ w / 8 * suc l) (k : l < 25) where
    lane_before : (j : ℕ) → j < l → lane_of w Q j ≡ lane_of w P j
    unfolding lane_of
    lane_before j n =
        sum_other (w / 8) (w / 8 * j) (omega (arith, mul-le-mul_left (w / 8) n, mul-suc (w / 8) j, mul-suc (w / 8) l))

    lane_after : (j : ℕ) → l < j → lane_of w Q j ≡ lane_of w P j
    lane_after j n =
        let m : R ≤ w / 8 * j = omega (arith, mul-le-mul_left (w / 8) n) in
        lane_past w Q j (omega (arith, length-append p (s ∷ []))) ∙ sym (lane_past w P j (omega (arith, length-padded R s p h)))

    lane_last : lane_of w Q l + 2 ^ (8 * v + 7) ≡ lane_of w P l
    unfolding lane_of
    lane_last =
        let i : suc v * l + v ≡ R - 1 = omega (arith, ap (λ (x : ℕ). x * suc l) d, mul-suc (suc v) l) in
        let g : ℕ = get_or Q (suc v * l + v) 0 in
        let f : get_or P (suc v * l + v) 0 ≡ g + 128 = rw i (padded_last R s p h) in
        let t : get_or P (suc v * l + v) 0 * 2 ^ (8 * v) ≡ g * 2 ^ (8 * v) + 128 * 2 ^ (8 * v) = ap (λ (x : ℕ). x * 2 ^ (8 * v)) f ∙ add-mul g 128 (2 ^ (8 * v)) in
        rw d (omega (arith, sum_other v (suc v * l) (omega arith), pow-add 2 (8 * v) 7))

    pub last_bit : (r : List ℕ) → r ≡ mixed w a (p ++ (s ∷ [])) → lane_of w (p ++ (s ∷ [])) l < 2 ^ (8 * v + 7)
        → set r l (bit_xor (get_or r l 0) (2 ^ (8 * v + 7))) ≡ mixed w a (padded R s p)
    last_bit r g x =
        rw g (mixed_lane w a Q P l (2 ^ (8 * v + 7)) k lane_before lane_after (xor_above (lane_of w Q l) (8 * v + 7) x ∙ lane_last))
