-- What the definitions say together: cSHAKE with nothing to tell it apart is SHAKE, verification takes exactly the recomputed code, and a
-- fixed code and an output of any length come from different strings.
use mathlib.Core.Path.{◌≡◌, refl, sym, ap, ◌∙◌}
use mathlib.Core.Bool.{Bool, true}
use mathlib.Core.List.{List, [], ◌∷◌, ◌++◌, append_assoc}
use Prim.Native.Nat.{ℕ, zero, suc, ◌*◌, ◌/◌, ◌%◌, ◌<◌}
use native.Mathlib.Omega.{arith}
use lib.ListN.{length, get_or, take, length-append}
use lib.Seq.{take_at, get_or_at}
use Rattle.keccak.specs.Rounds.{f1600}
use Rattle.refusal.specs.Rows.{pick, first, by}
use Rattle.compare.proofs.Same.{same_eq, same_is}
use Rattle.fields.specs.Numbers.{bytes_of}
use Rattle.sponge.specs.Hashes.{shake128, shake256}
use Rattle.absorber.specs.Absorbing.{Ready}
use Rattle.kmac.specs.Encodings.{size, right_encode, encode_string, bytepad}
use Rattle.kmac.specs.Functions.{kmac_name, cshake, new_x, kmac}
use Rattle.kmac.specs.Refusals.{kmac_rows}
use Rattle.kmac.specs.Answers.{seen, settled, cshakes, kmacs, judged, verifies}
use Rattle.kmac.proofs.Encoding.{size_zero, one_byte}
use Rattle.kmac.proofs.Settle.{length-cshake}

-- ---- with name and customisation both empty, cSHAKE is SHAKE

pub cshake128_empty : (X : List ℕ) (n : ℕ) → cshake 64 f1600 168 X n [] [] ≡ shake128 X n
unfolding cshake pick
cshake128_empty X n = refl

pub cshake256_empty : (X : List ℕ) (n : ℕ) → cshake 64 f1600 136 X n [] [] ≡ shake256 X n
unfolding cshake pick
cshake256_empty X n = refl

-- as a call answers
pub cshake128_is_shake128 : (X o : List ℕ) → cshakes 64 f1600 168 [] [] X o ≡ seen 0 (shake128 X (length o))
unfolding cshakes settled by pick cshake
cshake128_is_shake128 X o = refl

pub cshake256_is_shake256 : (X o : List ℕ) → cshakes 64 f1600 136 [] [] X o ≡ seen 0 (shake256 X (length o))
unfolding cshakes settled by pick cshake
cshake256_is_shake256 X o = refl

-- ---- verification

yes_by : (n : ℕ) (b : Bool) → (judged n b).is_right ≡ true → (n ≡ 0) × (b ≡ true)
unfolding judged by
yes_by zero b e = (refl, e)
yes_by (suc n) b e = let z : ◌≡◌ {A = ℕ} 0 1 = cc in absurd (omega arith)

module _ (w : ℕ) (f : List ℕ → List ℕ) (R : ℕ) where
  -- it says yes exactly where nothing is refused and the code is the one recomputed at its length
  module _ (K S X code : List ℕ) where
    pub accepts_only : (verifies w f R K S X code).is_right ≡ true → (first (kmac_rows (length K) (length code) (length S)) ≡ 0) × (code ≡ kmac w f R K X (length code) S)
    unfolding verifies
    accepts_only e = let q = yes_by _ _ e in (q.0, same_eq code (kmac w f R K X (length code) S) q.1)

    pub accepts : first (kmac_rows (length K) (length code) (length S)) ≡ 0 → code ≡ kmac w f R K X (length code) S
        → verifies w f R K S X code ≡ (record { number = 0; is_right = true })
    unfolding verifies judged by
    accepts z e = rw (z, same_is code (kmac w f R K X (length code) S) e)

  -- it accepts what KMAC just gave
  pub accepts_own : 0 < w / 8 → Ready w R 0 → (K S X o : List ℕ) → (kmacs w f R K S X o).answer ≡ 0
      → verifies w f R K S X (kmacs w f R K S X o).out ≡ (record { number = 0; is_right = true })
  unfolding kmacs settled by kmac
  accepts_own room ready K S X o z =
      let e : (kmacs w f R K S X o).out ≡ kmac w f R K X (length o) S = rw z in
      let l : length (kmac w f R K X (length o) S) ≡ length o = length-cshake w f R room ready (new_x R K X (8 * length o)) (length o) kmac_name S in
      rw e (accepts K S X (kmac w f R K X (length o) S) (rw l z) (ap (λ (n : ℕ). kmac w f R K X n S) (sym l)))

-- ---- a fixed code and an output of any length

last_same : (A C : List ℕ) (b d : ℕ) → A ++ (b ∷ []) ≡ C ++ (d ∷ []) → (A ≡ C) × (b ≡ d)
last_same A C b d e =
    let l : length A ≡ length C = omega (arith, length-append A (b ∷ []), length-append C (d ∷ []), ap length e) in (
      sym (take_at A (b ∷ []) (length A) refl) ∙ ap (take (length A)) e ∙ take_at C (d ∷ []) (length A) (sym l),
      sym (get_or_at A b [] 0 (length A) refl) ∙ ap (λ (q : List ℕ). get_or q (length A) 0) e ∙ get_or_at C d [] 0 (length A) (sym l),
    )

-- the encoded length is read from a string's end
pub length-told : (A C : List ℕ) (x : ℕ) → A ++ right_encode x ≡ C ++ right_encode 0 → x ≡ 0
unfolding right_encode bytes_of
length-told A C x e =
    let p = last_same (A ++ bytes_of (size x) x) (C ++ bytes_of (size 0) 0) (size x) (size 0)
    (append_assoc A (bytes_of (size x) x) (size x ∷ []) ∙ e ∙ sym (append_assoc C (bytes_of (size 0) 0) (size 0 ∷ []))) in
    let n : size x ≡ 1 = p.1 ∙ size_zero in
    let q : A ++ (x % 256 ∷ []) ≡ C ++ (0 ∷ []) = rw (n, size_zero) at p.0 in
    omega (arith, one_byte x n, (last_same A C (x % 256) 0 q).1)

-- a code of n bytes, of any key and message, is of another string than an output of any length
pub strings_differ : (R : ℕ) (K X K' X' : List ℕ) (n : ℕ) → 0 < n → new_x R K X (8 * n) ≡ new_x R K' X' 0 → ⊥
unfolding new_x
strings_differ R K X K' X' n p e =
    let A : List ℕ = bytepad (encode_string K) R in
    let C : List ℕ = bytepad (encode_string K') R in
    let z = length-told (A ++ X) (C ++ X') (8 * n) (append_assoc A X (right_encode (8 * n)) ∙ e ∙ sym (append_assoc C X' (right_encode 0))) in
    omega arith
