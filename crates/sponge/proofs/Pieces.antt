-- A string cut into pieces of m bytes: what a piece holds, which one is the last, and the blocks that the pieces are put into.
use mathlib.Core.Path.{◌≡◌, refl, sym}
use mathlib.Core.List.{List, [], ◌∷◌, ◌++◌, append_assoc, foldl-append}
use Prim.Native.Nat.{ℕ, zero, suc, ◌+◌, ◌-◌, ◌*◌, ◌/◌, ◌≤◌, ◌<◌, min}
use native.Mathlib.Nat.{div-eq_of_lt-le, div-mul-le_self, lt-div-mul-add, suc-mul}
use native.Mathlib.Numerals.{add-one}
use native.Mathlib.Omega.{arith}
use lib.ListN.{length, take, drop, length-append, length-take, length-drop}
use lib.Seq.{take_at, drop_at, drop-drop, take_all, take-append-le, drop-append-le}
use Rattle.sponge.specs.Pieces.{piece, blocks_of, before}
use Rattle.sponge.specs.Sponge.{absorb_block, absorb}

-- ---- piece k of s, which begins at `at`

pub piece_mid : (m : ℕ) (s : List ℕ) (k at e : ℕ) → at ≡ k * m → e ≡ at + m → take (e - at) (drop at s) ≡ piece m s k
unfolding piece
piece_mid m s k at e h l = let d : e - at ≡ m = omega arith in rw (d, h)

pub piece_last : (m : ℕ) (s : List ℕ) (k at : ℕ) → at ≡ k * m → length s - at ≤ m → take (length s - at) (drop at s) ≡ piece m s k
unfolding piece
piece_last m s k at h l =
    rw (take_all (length s - at) (drop at s) (omega (arith, length-drop at s)), ← h, take_all m (drop at s) (omega (arith, length-drop at s)))

pub length-piece : (m : ℕ) (s : List ℕ) (k : ℕ) → length (piece m s k) ≡ min m (length s - k * m)
unfolding piece
length-piece m s k = rw (length-take, length-drop)

-- ---- which piece is the last

-- a loop that goes on while m bytes or more are left ends at what is left over, which is shorter than m
pub rest_is : (m n k at : ℕ) → at ≡ k * m → at ≤ n → n - at < m → n / m ≡ k
rest_is m n k at h b l =
    let e : (k + 1) * m ≡ k * m + m = rw add-one (suc-mul k m) in
    div-eq_of_lt-le m (omega arith) (omega arith)

-- a loop that goes on while more than m bytes are left ends at the last piece, which is empty only if the string is
pub before_is : (m n k at : ℕ) → 0 < m → at ≡ k * m → at ≤ n - 1 → n - at ≤ m → before m n ≡ k
unfolding before
before_is m n k at p h b l = rest_is m (n - 1) k at h b (omega arith)

-- where the last piece begins, and that no byte lies behind it
pub before_low : (m n : ℕ) → before m n * m ≤ n - 1
unfolding before
before_low m n = div-mul-le_self (n - 1) m

pub before_high : (m n : ℕ) → 0 < m → n ≤ before m n * m + m
unfolding before
before_high m n h = omega (arith, lt-div-mul-add {a = n - 1} {b = m} h)

-- ---- the pieces of a string made of two: those within the first, and the one that is the second

pub piece_front : (m : ℕ) (s t : List ℕ) (k : ℕ) → suc k * m ≤ length s → piece m (s ++ t) k ≡ piece m s k
unfolding piece
piece_front m s t k h =
    let i : k * m ≤ length s = omega (arith, suc-mul k m) in
    let j : m ≤ length (drop (k * m) s) = omega (arith, suc-mul k m, length-drop (k * m) s) in
    rw (drop-append-le (k * m) s t i, take-append-le m (drop (k * m) s) t j)

pub piece_end : (m : ℕ) (s t : List ℕ) (k : ℕ) → length s ≡ k * m → length t ≤ m → piece m (s ++ t) k ≡ t
unfolding piece
piece_end m s t k h l = rw (drop_at s t (k * m) h, take_all m t l)

-- ---- the blocks that the pieces are put into

pub length-blocks_of : (m : ℕ) (g : List ℕ → List ℕ) (s : List ℕ) (k : ℕ) → length (blocks_of m g s k) ≡ k
unfolding blocks_of
length-blocks_of m g s zero = refl
length-blocks_of m g s (suc k) = omega (arith, length-append (blocks_of m g s k) (g (piece m s k) ∷ []), length-blocks_of m g s k)

pub blocks_of_front : (m : ℕ) (g : List ℕ → List ℕ) (s t : List ℕ) (k : ℕ) → k * m ≤ length s → blocks_of m g (s ++ t) k ≡ blocks_of m g s k
unfolding blocks_of
blocks_of_front m g s t zero h = refl
blocks_of_front m g s t (suc k) h =
    let i : k * m ≤ length s = omega (arith, suc-mul k m) in
    rw (blocks_of_front m g s t k i, piece_front m s t k h)

-- one list of blocks after another
pub absorb-append : (w : ℕ) (f : List ℕ → List ℕ) (a : List ℕ) (B C : List (List ℕ)) → absorb w f a (B ++ C) ≡ absorb w f (absorb w f a B) C
unfolding absorb
absorb-append w f a B C = foldl-append (absorb_block w f) a B C

-- one block more
pub absorb_more : (w : ℕ) (f : List ℕ → List ℕ) (a : List ℕ) (B : List (List ℕ)) (b : List ℕ)
    → absorb w f a (B ++ (b ∷ [])) ≡ absorb_block w f (absorb w f a B) b
unfolding absorb
absorb_more w f a B b = absorb-append w f a B (b ∷ [])

-- ---- writing in pieces

-- a part X laid over n elements of out at `at`
pub laid : (C X d out : List ℕ) (at n e : ℕ) → out ≡ C ++ drop at d → length C ≡ at → e ≡ at + n
    → take at out ++ (X ++ drop n (drop at out)) ≡ (C ++ X) ++ drop e d
laid C X d out at n e h l f =
    rw (h, take_at C (drop at d) at l, drop_at C (drop at d) at l, drop-drop, f) (sym (append_assoc C X (drop (at + n) d)))
