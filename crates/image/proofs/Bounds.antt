-- Strings of bytes, absorbed, keep lanes within their w bits; and what is opened from bytes is bytes. Over any permutation f that keeps them.
use mathlib.Core.Path.{◌≡◌, refl}
use mathlib.Core.List.{List, [], ◌∷◌, ◌++◌}
use Prim.Native.Nat.{ℕ, zero, suc, ◌+◌, ◌-◌, ◌*◌, ◌/◌, ◌^◌, ◌<◌}
use native.Mathlib.Nat.{zero-lt-suc, mod-lt}
use native.Mathlib.Omega.{arith}
use lib.Bits.{xor_lt}
use lib.ListN.{length, get_or, take, drop, replicate}
use lib.Pow.{pow_pos, pow-add}
use lib.Seq.{get_or-drop}
use Rattle.keccak.specs.Lanes.{sum}
use Rattle.keccak.proofs.States.{State}
use Rattle.sponge.specs.Table.{table}
use Rattle.sponge.specs.Bytes.{lane_of, mixed, byte_of, bytes}
use Rattle.sponge.specs.Padding.{tail, padded}
use Rattle.sponge.specs.Pieces.{piece, blocks_of, before}
use Rattle.sponge.specs.Sponge.{zeros, absorb_block, absorb}
use Rattle.sponge.proofs.Table.{length-table}
use Rattle.sponge.proofs.Lanes.{low_digit}
use Rattle.sponge.proofs.Pieces.{absorb-append}
use Rattle.duplex.specs.Duplex.{framed, state_after}
use Rattle.duplex.specs.Strings.{blocks, front, cut, xored, absorbed, unmasked, opened}
use Rattle.duplex.proofs.Draw.{after_blocks}

-- ---- lists of numbers below m

abbrev pub Below : ℕ → List ℕ → Type 0
Below m l = (i : ℕ) → get_or l i 0 < m

module _ (m : ℕ) (z : 0 < m) where
  below_cons : (x : ℕ) (l : List ℕ) → x < m → Below m l → Below m (x ∷ l)
  below_cons x l h k zero = h
  below_cons x l h k (suc i) = k i

  below_append : (x y : List ℕ) → Below m x → Below m y → Below m (x ++ y)
  below_append [] y h k = k
  below_append (a ∷ x) y h k = below_cons a (x ++ y) (h 0) (below_append x y (λ i. h (suc i)) k)

  pub below_take : (n : ℕ) (l : List ℕ) → Below m l → Below m (take n l)
  below_take zero l h = λ i. z
  below_take (suc n) [] h = λ i. z
  below_take (suc n) (x ∷ l) h = below_cons x (take n l) (h 0) (below_take n l (λ i. h (suc i)))

  below_zeros : (k : ℕ) → Below m (replicate k 0)
  below_zeros zero = λ i. z
  below_zeros (suc k) = below_cons 0 (replicate k 0) z (below_zeros k)

  below_table : (n : ℕ) (f : ℕ → ℕ) → ((i : ℕ) → f i < m) → Below m (table n f)
  unfolding table
  below_table zero f h = λ i. z
  below_table (suc n) f h = below_append (table n f) (f n ∷ []) (below_table n f h) (below_cons (f n) [] (h n) (λ i. z))

-- ---- bytes

some : 0 < 256
some = zero-lt-suc 255

piece_bytes : (n : ℕ) (s : List ℕ) (k : ℕ) → Below 256 s → Below 256 (piece n s k)
unfolding piece
piece_bytes n s k h = below_take 256 some n (drop (k * n) s) (λ i. rw (get_or-drop (k * n) s i 0) (h (k * n + i)))

tail_bytes : (s m : ℕ) → s < 128 → Below 256 (tail s m)
unfolding tail
tail_bytes s zero h = below_cons 256 some (s + 128) [] (omega arith) (λ i. some)
tail_bytes s (suc m) h =
    below_cons 256 some s (replicate m 0 ++ (128 ∷ [])) (omega arith)
    (below_append 256 some (replicate m 0) (128 ∷ []) (below_zeros 256 some m) (below_cons 256 some 128 [] (omega arith) (λ i. some)))

framed_bytes : (R b : ℕ) (p : List ℕ) → b < 2 → Below 256 p → Below 256 (framed R b p)
unfolding framed padded
framed_bytes R b p l h = below_append 256 some p (tail (2 + b) (R - 1 - length p)) h (tail_bytes (2 + b) _ (omega arith))

xored_bytes : (p z : List ℕ) → Below 256 p → Below 256 z → Below 256 (xored p z)
unfolding xored
xored_bytes p z h k = below_table 256 some (length p) _ (λ i. xor_lt 8 (get_or p i 0) (get_or z i 0) (h i) (k i))

state_bytes : (w : ℕ) (a : List ℕ) → Below 256 (bytes w a)
unfolding bytes byte_of
state_bytes w a = below_table 256 some _ _ (λ i. mod-lt _ some)

module _ (w : ℕ) (f : List ℕ → List ℕ) (R : ℕ) (a c : List ℕ) (h : Below 256 c) where
  unmasked_bytes : (k : ℕ) → Below 256 (unmasked w f R a c k)
  unfolding unmasked
  unmasked_bytes zero = λ i. some
  unmasked_bytes (suc k) =
      let y : List ℕ = absorb w f a (front R 1 (unmasked w f R a c k) k) in
      below_append 256 some (unmasked w f R a c k) (xored (piece (R - 1) c k) (bytes w y)) (unmasked_bytes k)
      (xored_bytes (piece (R - 1) c k) (bytes w y) (piece_bytes (R - 1) c k h) (state_bytes w y))

  pub opened_bytes : Below 256 (opened w f R a c)
  unfolding opened
  opened_bytes = unmasked_bytes (blocks R (length c))

-- ---- lanes

digits_below : (d : ℕ → ℕ) → ((m : ℕ) → d m < 256) → (k : ℕ) → sum (λ m. d m * 2 ^ (8 * m)) k < 2 ^ (8 * k)
digits_below d h zero = zero-lt-suc 0
digits_below d h (suc k) =
    let e : 8 * suc k ≡ 8 * k + 8 = omega arith in
    rw (low_digit d k, e, pow-add 2 (8 * k) 8) (omega (arith, h 0, digits_below (λ m. d (suc m)) (λ m. h (suc m)) k))

pub zeros_state : (w : ℕ) → State w zeros
unfolding zeros
zeros_state w = record { count = refl; below = below_zeros (2 ^ w) (pow_pos w) 25 }

-- lanes of whole bytes, and a permutation that leaves a state where it takes one
pub record Keeps (w : ℕ) (f : List ℕ → List ℕ) : Type 0 where
  pub whole : 8 * (w / 8) ≡ w
  pub state : (a : List ℕ) → State w a → State w (f a)

module _ {w : ℕ} {f : List ℕ → List ℕ} (k : Keeps w f) where
  mixed_state : (a b : List ℕ) → State w a → Below 256 b → State w (mixed w a b)
  unfolding mixed lane_of
  mixed_state a b s h =
      record {
        count = length-table 25 _;
        below = below_table (2 ^ w) (pow_pos w) 25 _ (λ j. xor_lt w _ _ (s.below j) (rw k.whole at (digits_below (λ m. get_or b (w / 8 * j + m) 0) (λ m. h (w / 8 * j + m)) (w / 8))));
      }

  -- blocks that leave a state
  abbrev Leave : List (List ℕ) → Type 0
  Leave B = (a : List ℕ) → State w a → State w (absorb w f a B)

  leave_one : (b : List ℕ) → Below 256 b → Leave (b ∷ [])
  unfolding absorb absorb_block
  leave_one b h a s = k.state (mixed w a b) (mixed_state a b s h)

  leave_append : (B C : List (List ℕ)) → Leave B → Leave C → Leave (B ++ C)
  leave_append B C h g a s = rw (absorb-append w f a B C) (g (absorb w f a B) (h a s))

  module _ (R : ℕ) where
    leave_front : (b : ℕ) → b < 2 → (s : List ℕ) → Below 256 s → (n : ℕ) → Leave (front R b s n)
    unfolding front blocks_of
    leave_front b l s h zero = λ a e. unfold absorb in e
    leave_front b l s h (suc n) =
        leave_append (front R b s n) _ (leave_front b l s h n) (leave_one _ (framed_bytes R b _ l (piece_bytes (R - 1) s n h)))

    -- the state that a string leaves
    pub absorbed_state : (mid last : ℕ) → mid < 2 → last < 2 → (s : List ℕ) → Below 256 s → (a : List ℕ) → State w a → State w (absorbed w f R a mid last s)
    unfolding absorbed cut
    absorbed_state mid last l m s h =
        leave_append (front R mid s _) _ (leave_front mid l s h _) (leave_one _ (framed_bytes R last _ m (piece_bytes (R - 1) s _ h)))

    leave_blanks : (n : ℕ) → Leave (replicate n (framed R 0 []))
    leave_blanks zero = λ a e. unfold absorb in e
    leave_blanks (suc n) =
        leave_append (framed R 0 [] ∷ []) (replicate n (framed R 0 [])) (leave_one _ (framed_bytes R 0 [] (zero-lt-suc 1) (λ i. some))) (leave_blanks n)

    -- and that a tag of n bytes leaves
    pub after_state : (a : List ℕ) (n : ℕ) → State w a → State w (state_after w f R a n)
    unfolding absorb
    after_state a n s = rw (after_blocks w f R a [] n) (leave_blanks (before (R - 1) n) a s)
