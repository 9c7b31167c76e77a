-- Laws of the tests: where two Booleans are joined, and where numbers are compared.
use Prim.Native.Nat.{ℕ, ◌≤◌}
use native.Mathlib.Omega.{arith}
use mathlib.Core.Path.{◌≡◌, refl}
use mathlib.Core.Bool.{Bool, true, false, not, ◌&&◌, ◌||◌}
use lib.Dec.{eqb, ltb}
use borrow.Author.Tests.{ltb-false, eq-eqb, ne_eqb}
use Rattle.refusal.specs.Rows.{outside}

pub both : (a b : Bool) → (a && b) ≡ true → (a ≡ true) × (b ≡ true)
both true b e = (refl, e)
both false b e = let z : ◌≡◌ {A = ℕ} 0 1 = cc in absurd (omega arith)

pub neither : (a b : Bool) → (a || b) ≡ false → (a ≡ false) × (b ≡ false)
neither true b e = let z : ◌≡◌ {A = ℕ} 0 1 = cc in absurd (omega arith)
neither false b e = (refl, e)

pub inside : (least most n : ℕ) → outside least most n ≡ false → (least ≤ n) × (n ≤ most)
inside least most n e = let p = neither (ltb n least) (ltb most n) e in (ltb-false n least p.0, ltb-false most n p.1)

-- two numbers differ, or do not
pub other : (x y : ℕ) → (x ≡ y → ⊥) → not (eqb x y) ≡ true
other x y d = rw (ne_eqb x y d)

pub alike : (x y : ℕ) → x ≡ y → not (eqb x y) ≡ false
alike x y e = rw (eq-eqb x y e)
