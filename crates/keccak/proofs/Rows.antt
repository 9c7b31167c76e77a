-- χ row by row, in place, is χ; for every width w.
use Prim.Native.Nat.{ℕ, suc, ◌+◌}
use mathlib.Core.Path.{◌≡◌, refl, sym, ap, ap₂, ◌∙◌}
use mathlib.Core.List.{List, [], ◌∷◌}
use native.Mathlib.Nat.{add-zero, zero-add}
use native.Mathlib.Omega.{arith}
use lib.ListN.{length, get_or}
use Rattle.keccak.specs.Lanes.{from}
use Rattle.keccak.specs.Steps.{chi, chi_row}

-- a list is its elements in a row
elements : (f : ℕ → ℕ) (k : ℕ) (l : List ℕ) → ((i : ℕ) → f (k + i) ≡ get_or l i 0) → from f k (length l) ≡ l
elements f k [] h = refl
elements f k (x ∷ l) h =
    ap₂ (λ (y : ℕ) (m : List ℕ). y ∷ m) (ap f (sym (add-zero k)) ∙ h 0)
    (elements f (k + 1) l (λ i. let e : k + 1 + i ≡ k + suc i = omega arith in ap f e ∙ h (suc i)))

-- so 25 lanes are those of a state, and what is said of them computes
lanes : (a : List ℕ) → length a ≡ 25 → a ≡ from (λ i. get_or a i 0) 0 25
lanes a e = sym (rw e at (elements (λ i. get_or a i 0) 0 a (λ i. rw zero-add)))

pub chi_rows : (w : ℕ) (a : List ℕ) → length a ≡ 25 → chi_row w 0 (chi_row w 5 (chi_row w 10 (chi_row w 15 (chi_row w 20 a)))) ≡ chi w a
chi_rows w a e = ap (λ (b : List ℕ). chi_row w 0 (chi_row w 5 (chi_row w 10 (chi_row w 15 (chi_row w 20 b))))) (lanes a e)
