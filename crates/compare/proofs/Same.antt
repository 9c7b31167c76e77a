-- The test that two lists are the same, and a difference that is gathered byte by byte.
use Prim.Native.Nat.{ℕ}
use native.Mathlib.Omega.{arith}
use mathlib.Core.Path.{◌≡◌, refl, sym, ap, ap₂, ◌∙◌}
use mathlib.Core.List.{List, [], ◌∷◌}
use mathlib.Core.Bool.{Bool, true, false}
use lib.Dec.{eqb}
use lib.ListN.{length}
use lib.Bits.{bit_xor, bit_or, or_add_and, xor_add_and, and_le_l, and_le_r, xor_self}
use borrow.Author.Tests.{eqb-true, eq-eqb, ne_eqb}
use Rattle.std.specs.List.{fold, zip}
use Rattle.refusal.proofs.Tests.{both}
use Rattle.compare.specs.Same.{same}

pub same_eq : (x y : List ℕ) → same x y ≡ true → x ≡ y
unfolding same
same_eq [] [] e = refl
same_eq [] (b ∷ y) e = let z : ◌≡◌ {A = ℕ} 0 1 = cc in absurd (omega arith)
same_eq (a ∷ x) [] e = let z : ◌≡◌ {A = ℕ} 0 1 = cc in absurd (omega arith)
same_eq (a ∷ x) (b ∷ y) e =
    let p = both (eqb a b) (same x y) e in
    ap₂ (λ (h : ℕ) (t : List ℕ). h ∷ t) (eqb-true a b p.0) (same_eq x y p.1)

same_refl : (x : List ℕ) → same x x ≡ true
unfolding same
same_refl [] = refl
same_refl (a ∷ x) = rw (eq-eqb a a refl, same_refl x)

pub same_is : (x y : List ℕ) → x ≡ y → same x y ≡ true
same_is x y e = rw e (same_refl y)

pub other_is : (x y : List ℕ) → (x ≡ y → ⊥) → same x y ≡ false
other_is x y d = go (same x y) refl
  where
    go : (t : Bool) → same x y ≡ t → t ≡ false
    go true e = absurd (d (same_eq x y e))
    go false e = refl

pub other_length : (x y : List ℕ) → (length x ≡ length y → ⊥) → false ≡ same x y
other_length x y d = sym (other_is x y (λ e. d (ap length e)))

-- a difference d that is 0 just where the lists are the same
pub by_difference : (d : ℕ) (x y : List ℕ) → (d ≡ 0 → x ≡ y) → (x ≡ y → d ≡ 0) → eqb d 0 ≡ same x y
by_difference d x y p q = go (same x y) refl
  where
    go : (t : Bool) → same x y ≡ t → eqb d 0 ≡ t
    go true e = eq-eqb d 0 (q (same_eq x y e))
    go false e = ne_eqb d 0 (λ z. let w : ◌≡◌ {A = ℕ} 0 1 = cc (same_is x y (p z)) in omega arith)

-- ---- the difference that is gathered byte by byte

-- what is gathered onto d
abbrev pub gathered : ℕ → List ℕ → List ℕ → ℕ
gathered d x y = fold (λ d p. bit_or d (bit_xor p.0 p.1)) d (zip x y)

-- it is 0 only if each byte's difference is
gathered_none : (d : ℕ) (x y : List ℕ) → length x ≡ length y → gathered d x y ≡ 0 → (d ≡ 0) × (x ≡ y)
gathered_none d [] [] l z = (z, refl)
gathered_none d [] (b ∷ y) l z = absurd (omega arith)
gathered_none d (a ∷ x) [] l z = absurd (omega arith)
gathered_none d (a ∷ x) (b ∷ y) l z =
    let m : ℕ = bit_xor a b in
    let h = gathered_none (bit_or d m) x y (omega arith) z in
    let m0 : m ≡ 0 = omega (arith, h.0, or_add_and d m, and_le_l d m) in
    let e : a ≡ b = omega (arith, m0, xor_add_and a b, and_le_l a b, and_le_r a b) in
    (omega (arith, h.0, or_add_and d m, and_le_r d m), rw (e, h.1))

gathered_same : (x : List ℕ) → gathered 0 x x ≡ 0
gathered_same [] = refl
gathered_same (a ∷ x) = ap (λ (d : ℕ). gathered d x x) (xor_self a) ∙ gathered_same x

pub difference_is : (d : ℕ) (x y : List ℕ) → d ≡ gathered 0 x y → length x ≡ length y → (d ≡ 0 → x ≡ y) × (x ≡ y → d ≡ 0)
difference_is d x y e l = (λ z. (gathered_none 0 x y l (sym e ∙ z)).1, λ q. e ∙ rw q (gathered_same y))
