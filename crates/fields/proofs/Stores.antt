-- Stores of lists, `sets l i xs`, one after the other.
use mathlib.Core.Path.{◌≡◌, refl, sym, ap, ◌∙◌}
use mathlib.Core.List.{List, [], ◌∷◌, ◌++◌, append_assoc}
use Prim.Native.Nat.{ℕ, suc, ◌+◌, ◌-◌, ◌≤◌, ◌<◌}
use native.Mathlib.Nat.{add-zero, add-suc, suc-add}
use native.Mathlib.Omega.{arith}
use lib.ListN.{length, get_or, set, take, drop}
use lib.Seq.{sets, sets-eq, drop-drop, get_or-set_other}

-- neighbouring stores join
pub sets-append : {A : Type 0} (l : List A) (i : ℕ) (xs ys : List A) (j : ℕ) → j ≡ i + length xs → sets (sets l i xs) j ys ≡ sets l i (xs ++ ys)
sets-append l i [] ys j e = ap (λ (k : ℕ). sets l k ys) (e ∙ add-zero i)
sets-append l i (x ∷ xs) ys j e = sets-append (set l i x) (suc i) xs ys j (e ∙ add-suc i (length xs) ∙ sym (suc-add i (length xs)))

-- what stands elsewhere is not touched
pub get_d_sets_before : {A : Type 0} (xs l : List A) (i j : ℕ) (d : A) → j < i → get_or (sets l i xs) j d ≡ get_or l j d
get_d_sets_before [] l i j d h = refl
get_d_sets_before (x ∷ xs) l i j d h =
    get_d_sets_before xs (set l i x) (suc i) j d (omega arith) ∙ get_or-set_other l i j x d (λ e. omega arith)

pub get_or-sets_after : {A : Type 0} (xs l : List A) (i j : ℕ) (d : A) → i + length xs ≤ j → get_or (sets l i xs) j d ≡ get_or l j d
get_or-sets_after [] l i j d h = refl
get_or-sets_after (x ∷ xs) l i j d h =
    get_or-sets_after xs (set l i x) (suc i) j d (omega arith) ∙ get_or-set_other l i j x d (λ e. omega arith)

-- a part that was lent, and came back as x
pub stored_over : (d x : List ℕ) (i e : ℕ) → e ≡ i + length x → e ≤ length d → take i d ++ (x ++ drop (e - i) (drop i d)) ≡ sets d i x
stored_over d x i e p l =
    let q : e - i ≡ length x = omega arith in
    rw (q, drop-drop (length x) i d) (sym (sets-eq x d i (omega arith) ∙ append_assoc (take i d) x (drop (i + length x) d)))
