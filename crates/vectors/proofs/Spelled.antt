-- What is picked by a test, and the steps of what the lines spell.
use mathlib.Core.Path.{◌≡◌, refl, sym, ap, ◌∙◌}
use mathlib.Core.List.{List, [], ◌∷◌}
use mathlib.Core.Bool.{Bool, true, false, ◌&&◌}
use Prim.Native.Nat.{ℕ, ◌+◌, ◌-◌, ◌*◌, ◌≤◌, ◌<◌}
use native.Mathlib.Numerals.{add-one}
use native.Mathlib.Omega.{arith}
use lib.Dec.{ltb, eqb}
use lib.ListN.{length, take, drop, get_or}
use lib.Seq.{drop-cons, drop-length}
use borrow.Author.Tests.{ltb-true, ltb-false, eqb-true, eqb-false}
use Rattle.refusal.specs.Rows.{pick}
use Rattle.std.proofs.Common.{Result, Ok, Err, pos}
use Rattle.std.specs.Cmp.Lexicographic.{pointwise}
use Rattle.std.specs.Result.{OkIff, result_unwrap_or}
use Rattle.std.specs.Int.{FitsUnsignedBits}
use Rattle.std.specs.Prelude.{unsigned_abs}
use Rattle.compare.specs.Same.{same}
use Rattle.compare.proofs.Same.{same_eq, same_is, other_is}
use Rattle.vectors.specs.Bounds.{setting}
use Rattle.vectors.specs.Spelled.{digit, byte, number_from, is_named, value, number_after}

pub picked : {A : Type 0} (t : Bool) (x y r : A) → (t ≡ true → r ≡ x) → (t ≡ false → r ≡ y) → r ≡ pick t x y
unfolding pick
picked true x y r p q = p refl
picked false x y r p q = q refl

pub below : {A : Type 0} (a b : ℕ) (x y r : A) → (a < b → r ≡ x) → (b ≤ a → r ≡ y) → r ≡ pick (ltb a b) x y
below a b x y r p q = picked (ltb a b) x y r (λ t. p (ltb-true a b t)) (λ t. q (ltb-false a b t))

pub equal : {A : Type 0} (a b : ℕ) (x y r : A) → (a ≡ b → r ≡ x) → ((a ≡ b → ⊥) → r ≡ y) → r ≡ pick (eqb a b) x y
equal a b x y r p q = picked (eqb a b) x y r (λ t. p (eqb-true a b t)) (λ t. q (eqb-false a b t))

-- a number as a setting, by what a cast to 16 bits answers
pub setting_is : {E : Type 0} (r : Result ℕ E) (n : ℕ) → OkIff r (FitsUnsignedBits 16 (pos n)) (unsigned_abs (pos n)) → result_unwrap_or r 0 ≡ setting n
setting_is (Ok x) n h = below 65535 n 0 n x (λ p. absurd (omega (arith, h.0))) (λ p. h.1)
setting_is (Err e) n h = below 65535 n 0 n 0 (λ p. refl) (λ p. absurd (h (lit_below n p)))
  where
    lit_below : (n : ℕ) → n ≤ 65535 → n < 65536
    lit_below n p = omega arith

pub digit_is : (b r : ℕ) → (b < 48 → r ≡ 16) → (48 ≤ b → b < 58 → r ≡ b - 48) → (58 ≤ b → b < 97 → r ≡ 16)
    → (97 ≤ b → b < 103 → r ≡ b - 97 + 10) → (103 ≤ b → r ≡ 16) → r ≡ digit b
unfolding digit
digit_is b r under decimal between letter over =
    below b 48 _ _ r under (λ p.
    below b 58 _ _ r (decimal p) (λ q.
    below b 97 _ _ r (between q) (λ s.
    below b 103 _ _ r (letter s) over)))

pub byte_is : (high low r : ℕ) → (15 < digit high → r ≡ 256) → (15 < digit low → r ≡ 256)
    → (digit high ≤ 15 → digit low ≤ 15 → r ≡ 16 * digit high + digit low) → r ≡ byte high low
unfolding byte
byte_is high low r p q s = below 15 (digit high) _ _ r p (λ h. below 15 (digit low) _ _ r q (s h))

pub byte_no_high : (high low : ℕ) → digit high ≡ 16 → byte high low ≡ 256
byte_no_high high low e = sym (byte_is high low 256 (λ p. refl) (λ p. refl) (λ p q. omega arith))

pub byte_no_low : (high low : ℕ) → digit low ≡ 16 → byte high low ≡ 256
byte_no_low high low e = sym (byte_is high low 256 (λ p. refl) (λ p. refl) (λ p q. omega arith))

pub byte_both : (high low h l : ℕ) → h ≡ digit high → l ≡ digit low → h < 16 → l < 16 → 16 * h + l ≡ byte high low
byte_both high low h l p q s t = byte_is high low (16 * h + l) (λ k. omega arith) (λ k. omega arith) (λ j k. omega arith)

-- ---- a number, as a loop reads it: n is what the first i bytes of t give

pub record Read (t : List ℕ) (n i : ℕ) : Type 0 where
  pub whole : number_from n (drop i t) ≡ number_from 0 t

pub read_none : (t : List ℕ) → Read t 0 0
read_none t = record { whole = refl }

pub read_more : (t : List ℕ) (n i d : ℕ) → Read t n i → i < length t → d ≡ digit (get_or t i 0) → d ≤ 9 → n ≤ 999999 → Read t (10 * n + d) (i + 1)
unfolding number_from
read_more t n i d r h e p q =
    record {
      whole =
          rw (e, add-one)
          (below 9 (digit (get_or t i 0)) _ _ _ (λ k. absurd (omega arith)) (λ k. below 999999 n _ _ _ (λ k. absurd (omega arith)) (λ k. refl))
          ∙ (rw (drop-cons t i 0 h) at r.whole));
    }

pub read_stop : (t : List ℕ) (n i : ℕ) → Read t n i → i < length t → (digit (get_or t i 0) ≤ 9 → 999999 < n) → n ≡ number_from 0 t
unfolding number_from
read_stop t n i r h p =
    below 9 (digit (get_or t i 0)) _ _ n (λ k. refl) (λ k. below 999999 n _ _ n (λ l. refl) (λ l. absurd (omega (arith, p (omega arith)))))
    ∙ (rw (drop-cons t i 0 h) at r.whole)

pub read_all : (t : List ℕ) (n i : ℕ) → Read t n i → i ≡ length t → n ≡ number_from 0 t
unfolding number_from
read_all t n i r h = rw (h, drop-length t) at r.whole

-- ---- a field's value, by what a test of the library found of the front of its line

-- the library's test of two lists is this one
same_point : (x y : List ℕ) → pointwise eqb x y ≡ same x y
unfolding same
same_point [] [] = refl
same_point [] (b ∷ y) = refl
same_point (a ∷ x) [] = refl
same_point (a ∷ x) (b ∷ y) = ap (λ (t : Bool). eqb a b && t) (same_point x y)

-- the two lists may be exchanged
same_back : (x y : List ℕ) → pointwise eqb y x ≡ same x y
same_back x y = same_point y x ∙ go (same y x) refl
  where
    go : (t : Bool) → same y x ≡ t → t ≡ same x y
    go true e = sym (same_is x y (sym (same_eq y x e)))
    go false e = sym (other_is x y (λ p. let z : ◌≡◌ {A = ℕ} 0 1 = cc (same_is y x (sym p)) in omega arith))

pub named_is : (line name : List ℕ) (r : Bool) → r ≡ pointwise eqb name (take (length name) line) → r ≡ is_named line name
unfolding is_named
named_is line name r e = e ∙ same_back (take (length name) line) name

pub value_other : (line name : List ℕ) → pointwise eqb (take (length name) line) name ≡ false → value line name ≡ []
unfolding value is_named
value_other line name e = sym (picked _ _ _ [] (λ p. let z : ◌≡◌ {A = Bool} true false = sym p ∙ sym (same_point _ name) ∙ e in cc) (λ p. refl))

pub value_named : (line name v : List ℕ) → pointwise eqb (take (length name) line) name ≡ true → v ≡ drop (length name) line → v ≡ value line name
unfolding value is_named
value_named line name v e p = picked _ _ _ v (λ q. p) (λ q. let z : ◌≡◌ {A = Bool} true false = sym e ∙ same_point _ name ∙ q in cc)

pub value_empty : (line name v : List ℕ) → pointwise eqb (take (length name) line) name ≡ true → v ≡ drop (length name) line → length v ≡ 0 → value line name ≡ []
value_empty line name v e p z = sym (value_named line name v e p) ∙ none v z
  where
    none : (v : List ℕ) → length v ≡ 0 → v ≡ []
    none [] z = refl
    none (b ∷ v) z = absurd (omega arith)

-- the number of a field that is not there, and of one that is
pub number_none : (line name : List ℕ) (n : ℕ) → value line name ≡ [] → n ≡ number_after line name n
unfolding number_after
number_none line name n e = equal (length (value line name)) 0 _ _ n (λ p. refl) (λ d. absurd (d (ap length e)))

pub number_some : (line name v : List ℕ) (n r : ℕ) → v ≡ value line name → 0 < length v → r ≡ number_from 0 v → r ≡ number_after line name n
unfolding number_after
number_some line name v n r e l q = equal (length (value line name)) 0 _ _ r (λ p. let z : length v ≡ 0 = ap length e ∙ p in absurd (omega arith)) (λ p. rw e at q)
