-- What pairs of digits spell, as a loop puts it.
use Rattle.std.proofs.Common.{◌≡◌, ℕ, zero, suc, ◌+◌, ◌/◌, ◌<◌, List, [], ◌∷◌, ◌++◌, length, take, drop, get_or, refl, sym, ap, ◌∙◌, arith, zero-add}
use Rattle.std.specs.Simd.{first_chunks}
use Rattle.std.proofs.lemmas.List.{take_all}
use Rattle.std.proofs.lemmas.List.Edits.{paste_more}
use borrow.Author.Count.{below_more}
use lib.ListN.{set}
use lib.Seq.{paste}
use Rattle.vectors.specs.Spelled.{byte, bytes, IsWhole}

pub length_bytes : (d : List ℕ) → length (bytes d) ≡ length d / 2
unfolding bytes
length_bytes [] = refl
length_bytes (x ∷ []) = refl
length_bytes (x ∷ y ∷ d) = omega (arith, length_bytes d)

-- a pair's byte among them
pair_at : (n : ℕ) (d : List ℕ) (i : ℕ) → n ≡ length d / 2 → i < n
    → byte (get_or (get_or (first_chunks 2 n d) i []) 0 0) (get_or (get_or (first_chunks 2 n d) i []) 1 0) ≡ get_or (bytes d) i 0
unfolding bytes
pair_at n [] i e h = absurd (omega arith)
pair_at n (x ∷ []) i e h = absurd (omega arith)
pair_at zero (x ∷ y ∷ d) i e h = absurd (omega arith)
pair_at (suc n) (x ∷ y ∷ d) zero e h = refl
pair_at (suc n) (x ∷ y ∷ d) (suc i) e h = pair_at n d i (omega arith) (omega arith)

-- the first n of some bytes put over the front of others
flat : (old s : List ℕ) (n : ℕ) → paste old 0 s n ≡ take n s ++ drop n old
flat old s n = ap (λ (k : ℕ). take n s ++ drop k old) (zero-add n)

put_more : (old s : List ℕ) (i : ℕ) → i < length old → i < length s → set (take i s ++ drop i old) i (get_or s i 0) ≡ take (i + 1) s ++ drop (i + 1) old
put_more old s i h l =
    ap (λ (x : List ℕ). set x i (get_or s i 0)) (sym (flat old s i))
    ∙ ap (λ (k : ℕ). set (paste old 0 s i) k (get_or s i 0)) (sym (zero-add i))
    ∙ paste_more old 0 s i 0 (omega arith) l
    ∙ flat old s (i + 1)

-- one pair more
pub decoded_more : (d old out : List ℕ) (p : List (List ℕ)) (i b : ℕ) → p ≡ first_chunks 2 (length d / 2) d → length p ≡ length d / 2 → i < length p
    → i < length old → out ≡ take i (bytes d) ++ drop i old → ((k : ℕ) → k < i → get_or (bytes d) k 0 < 256)
    → b ≡ byte (get_or (get_or p i []) 0 0) (get_or (get_or p i []) 1 0) → b < 256
    → (set out i b ≡ take (i + 1) (bytes d) ++ drop (i + 1) old) × ((k : ℕ) → k < i + 1 → get_or (bytes d) k 0 < 256)
decoded_more d old out p i b e l h m put spelled is fits =
    let at : b ≡ get_or (bytes d) i 0 = is ∙ (rw e (pair_at (length d / 2) d i refl (omega arith))) in (
      rw (put, at) (put_more old (bytes d) i m (omega (arith, length_bytes d))),
      below_more (λ (k : ℕ). get_or (bytes d) k 0 < 256) i spelled (omega arith),
    )

-- a pair that spells none
pub decoded_stop : (d : List ℕ) (p : List (List ℕ)) (i : ℕ) → p ≡ first_chunks 2 (length d / 2) d → length p ≡ length d / 2 → i < length p
    → byte (get_or (get_or p i []) 0 0) (get_or (get_or p i []) 1 0) ≡ 256 → IsWhole d → ⊥
decoded_stop d p i e l h is w =
    let at : byte (get_or (get_or p i []) 0 0) (get_or (get_or p i []) 1 0) ≡ get_or (bytes d) i 0 = rw e (pair_at (length d / 2) d i refl (omega arith)) in
    omega (arith, w.1 i (omega (arith, length_bytes d)))

-- every pair
pub decoded_all : (d old out : List ℕ) (i n : ℕ) → out ≡ take i (bytes d) ++ drop i old → n ≡ length d / 2 → i ≡ n → out ≡ bytes d ++ drop n old
decoded_all d old out i n put e q =
    put
    ∙ ap (λ (k : ℕ). take k (bytes d) ++ drop k old) q
    ∙ ap (λ (x : List ℕ). x ++ drop n old) (take_all n (bytes d) (omega (arith, length_bytes d)))
