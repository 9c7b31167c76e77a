-- The count of bytes from the count of leading zeros, the last bytes of a number, and a string padded to whole blocks.
use mathlib.Core.Path.{◌≡◌, refl, sym, ap, subst, ◌∙◌}
use mathlib.Core.Bool.{Bool, true, false}
use mathlib.Core.List.{List, ◌++◌}
use mathlib.Core.Logic.{⊎_elim}
use Prim.Native.Nat.{ℕ, zero, suc, ◌+◌, ◌-◌, ◌/◌, ◌%◌, ◌*◌, ◌^◌, ◌≤◌, ◌<◌}
use native.Mathlib.Nat.{zero-add, add-zero, lt_of_lt_of_le, eq-or-lt_of_le}
use native.Mathlib.Omega.{arith}
use lib.ListN.{length, take, drop, replicate}
use lib.Seq.{take_all, drop_at}
use lib.Pow.{pow_mono}
use lib.Count.{count_leading_zeros, leading_top}
use lib.Dec.{ltb}
use borrow.Author.Tests.{ltb-true, ltb-false}
use Rattle.refusal.specs.Rows.{pick}
use Rattle.std.specs.Int.{bytes_high_first}
use Rattle.fields.specs.Numbers.{bytes_of}
use Rattle.fields.proofs.Numbers.{length-bytes_of, bytes_join, written_is}
use Rattle.absorber.specs.declared.Absorbing.{Absorbing}
use Rattle.absorber.specs.Absorbing.{Absorbed}
use Rattle.absorber.proofs.Parts.{parts, offset_is}
use Rattle.kmac.specs.Encodings.{first_from, size, left_encode, filled, bytepad}

-- ---- how many bytes: the standard's n

picked : (P : ℕ → Type 0) (a b x y : ℕ) → (a < b → P x) → (b ≤ a → P y) → P (pick (ltb a b) x y)
picked P a b x y f g = go (ltb a b) refl
  where
    go : (t : Bool) → ltb a b ≡ t → P (pick t x y)
    go true e = unfold pick in f (ltb-true a b e)
    go false e = unfold pick in g (ltb-false a b e)

first_from_lem : (x m k : ℕ) → k ≤ first_from x m k
unfolding first_from
first_from_lem x zero k = omega arith
first_from_lem x (suc m) k = picked (λ n. k ≤ n) x (2 ^ (8 * k)) k _ (λ l. omega arith) (λ l. omega (arith, first_from_lem x m (k + 1)))

first_holds : (x m k : ℕ) → x < 2 ^ (8 * (k + m)) → x < 2 ^ (8 * first_from x m k)
unfolding first_from
first_holds x zero k h = rw (add-zero k) at h
first_holds x (suc m) k h =
    let n : k + suc m ≡ k + 1 + m = omega arith in
    picked (λ i. x < 2 ^ (8 * i)) x (2 ^ (8 * k)) k _ (λ l. l) (λ l. first_holds x m (k + 1) (rw n at h))

first_least : (x m k j : ℕ) → k ≤ j → x < 2 ^ (8 * j) → first_from x m k ≤ j
unfolding first_from
first_least x zero k j h l = h
first_least x (suc m) k j h l =
    picked (λ n. n ≤ j) x (2 ^ (8 * k)) k _ (λ u. h)
    (λ u. first_least x m (k + 1) j (⊎_elim (λ e. let v : x < 2 ^ (8 * k) = rw e l in absurd (omega arith)) (λ n. omega arith) (eq-or-lt_of_le h)) l)

-- positive, 2 ^ (8 n) > x, and the smallest such
pub size_rule : (x : ℕ) → x < 2 ^ (8 * 255) → (0 < size x) × (x < 2 ^ (8 * size x)) × ((n : ℕ) → 0 < n → x < 2 ^ (8 * n) → size x ≤ n)
unfolding size
size_rule x h = (first_from_lem x 254 1, first_holds x 254 1 h, λ n p l. first_least x 254 1 n p l)

pub size_zero : size 0 ≡ 1
unfolding size first_from pick
size_zero = refl

-- one byte holds only what is below 256
pub one_byte : (x : ℕ) → size x ≡ 1 → x < 256
unfolding size first_from
one_byte x =
    picked (λ n. n ≡ 1 → x < 256) x 256 1 (first_from x 253 2) (λ l e. l) (λ l e. absurd (omega (arith, first_from_lem x 253 2)))

-- from the highest bit j of x
pub size_counted : (x : ℕ) → (x ≡ 0 → ⊥) → x < 2 ^ 64 → ((71 - count_leading_zeros 64 x) / 8 ≡ size x) × ((71 - count_leading_zeros 64 x) / 8 ≤ 8)
size_counted x p h =
    let t = leading_top 64 x (omega arith) h in
    let j : ℕ = t.0 in
    let r = size_rule x (lt_of_lt_of_le h (pow_mono {i = 64} {j = 8 * 255} (omega arith))) in
    let e : (71 - count_leading_zeros 64 x) / 8 ≡ j / 8 + 1 = omega (arith, t.1) in
    let l = r.2 (j / 8 + 1) (omega arith) (lt_of_lt_of_le t.3 (pow_mono {i = suc j} {j = 8 * (j / 8 + 1)} (omega arith))) in
    let f : size x ≡ j / 8 + 1 =
    ⊎_elim (λ q. q) (λ q. absurd (omega (arith, r.1, t.2, pow_mono {i = 8 * size x} {j = j} (omega arith)))) (eq-or-lt_of_le l) in
    (e ∙ sym f, omega (arith, t.1))

-- ---- the last n bytes of x, of its eight

pub last_bytes : (x n : ℕ) (b : List ℕ) → n ≤ 8 → b ≡ bytes_high_first 8 x → take (8 - (8 - n)) (drop (8 - n) b) ≡ bytes_of n x
last_bytes x n b h e =
    let m : 8 - n + n ≡ 8 = omega arith in
    let f : b ≡ bytes_of (8 - n) (x / 256 ^ n) ++ bytes_of n x = e ∙ written_is 8 x ∙ rw m at (bytes_join (8 - n) n x) in
    rw (f, drop_at (bytes_of (8 - n) (x / 256 ^ n)) (bytes_of n x) (8 - n) (length-bytes_of (8 - n) (x / 256 ^ n)))
    (take_all (8 - (8 - n)) (bytes_of n x) (omega (arith, length-bytes_of n x)))

-- ---- from a block's edge to the next

module _ (w : ℕ) (f : List ℕ → List ℕ) (R : ℕ) where
  pub bytepad_is : {c r u : Absorbing} (X : List ℕ) → c.offset ≡ 0 → 0 < R → Absorbed w f R c (left_encode R ++ X) r
      → Absorbed w f R r (replicate ((R - r.offset) % R) 0) u → Absorbed w f R c (bytepad X R) u
  unfolding bytepad filled
  bytepad_is {c} {r} {u} X z p t q =
      let Z : List ℕ = left_encode R ++ X in
      let e : r.offset ≡ length Z % R =
      ap (λ (y : Absorbing). y.offset) t.is ∙ offset_is w f R c Z (omega arith) ∙ ap (λ (n : ℕ). (n + length Z) % R) z ∙ ap (λ (n : ℕ). n % R) (zero-add (length Z)) in
      parts w f R t (subst (λ (n : ℕ). Absorbed w f R r (replicate ((R - n) % R) 0) u) e q)
