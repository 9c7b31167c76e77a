-- Laws of tables: what holds where no row refuses, how tables stand behind each other, and what a call's number settles.
use Prim.Native.Nat.{ℕ, zero, suc}
use native.Mathlib.Omega.{arith}
use mathlib.Core.Path.{◌≡◌, refl, sym, ap, ◌∙◌}
use mathlib.Core.List.{List, [], ◌∷◌, ◌++◌}
use mathlib.Core.Bool.{Bool, true, false, ◌&&◌}
use lib.Dec.{ltb}
use borrow.Author.Tests.{lt-ltb, le-ltb, ltb-true}
use Rattle.refusal.specs.Rows.{pick, first, by}
use Rattle.refusal.proofs.Tests.{both}

-- ---- one row: it is taken, or passed

pub taken : {A : Type 0} {t : Bool} (x q : A) → t ≡ true → x ≡ pick t x q
unfolding pick
taken x q h = rw h

pub passed : {A : Type 0} {t : Bool} {q r : A} (x : A) → t ≡ false → r ≡ q → r ≡ pick t x q
unfolding pick
passed x h g = rw h g

-- what a function found of a test t
pub told : {b t u : Bool} → b ≡ t → b ≡ u → t ≡ u
told e h = sym e ∙ h

-- ---- by a number

pub kept : {A : Type 0} (n : ℕ) (old new : A) → (n ≡ 0 → ⊥) → by n old new ≡ old
unfolding by
kept zero old new d = absurd (d refl)
kept (suc n) old new d = refl

pub made : {A : Type 0} (n : ℕ) (old new : A) → n ≡ 0 → by n old new ≡ new
unfolding by
made n old new e = rw e

pub by_zero : (n q : ℕ) → by n n q ≡ 0 → (n ≡ 0) × (q ≡ 0)
unfolding by
by_zero zero q e = (refl, e)
by_zero (suc n) q e = absurd (omega arith)

-- ---- rows one after the other

-- every test is false
abbrev pub Clear : List (Bool × ℕ) → Type 0
Clear [] = Unit {0}
Clear (row ∷ rows) = (row.0 ≡ false) × Clear rows

-- no row has the number 0, which would refuse nothing
abbrev pub numbered : List (Bool × ℕ) → Bool
numbered [] = true
numbered (row ∷ rows) = ltb 0 row.1 && numbered rows

clear_row : (t : Bool) (n q : ℕ) → ltb 0 n ≡ true → pick t n q ≡ 0 → (t ≡ false) × (q ≡ 0)
unfolding pick
clear_row true n q m e = absurd (omega (arith, ltb-true 0 n m))
clear_row false n q m e = (refl, e)

-- a table that refuses nothing: every test is false
pub all_clear : (rows : List (Bool × ℕ)) → numbered rows ≡ true → first rows ≡ 0 → Clear rows
all_clear [] m e = tt
all_clear (row ∷ rows) m e =
    let p = both (ltb 0 row.1) (numbered rows) m in
    let q = clear_row row.0 row.1 (first rows) p.0 e in
    (q.0, all_clear rows p.1 q.1)

pub clear_first : (rows : List (Bool × ℕ)) → Clear rows → first rows ≡ 0
unfolding pick
clear_first [] c = refl
clear_first (row ∷ rows) c = rw c.0 (clear_first rows c.1)

-- tables one behind another
pub clear_append : (xs ys : List (Bool × ℕ)) → Clear xs → Clear ys → Clear (xs ++ ys)
clear_append [] ys c d = d
clear_append (x ∷ xs) ys c d = (c.0, clear_append xs ys c.1 d)

pub clear_parts : (xs ys : List (Bool × ℕ)) → Clear (xs ++ ys) → Clear xs × Clear ys
clear_parts [] ys c = (tt, c)
clear_parts (x ∷ xs) ys c = let p = clear_parts xs ys c.1 in ((c.0, p.0), p.1)

append_row : (t : Bool) (n a b : ℕ) → ltb 0 n ≡ true → pick t n (by a a b) ≡ by (pick t n a) (pick t n a) b
unfolding pick by
append_row true zero a b m = absurd (omega (arith, ltb-true 0 0 m))
append_row true (suc n) a b m = refl
append_row false n a b m = refl

-- the first that refuses
pub first-append : (xs ys : List (Bool × ℕ)) → numbered xs ≡ true → first (xs ++ ys) ≡ by (first xs) (first xs) (first ys)
unfolding by
first-append [] ys m = refl
first-append (row ∷ rows) ys m =
    let p = both (ltb 0 row.1) (numbered rows) m in
    ap (pick row.0 row.1) (first-append rows ys p.1) ∙ append_row row.0 row.1 (first rows) (first ys) p.0

-- a first table's number n, which refuses, or does not
pub stops : {n m : ℕ} (q : ℕ) → n ≡ m → (n ≡ 0 → ⊥) → n ≡ by m m q
stops {n} q e d = rw (← e) (sym (kept n n q d))

pub goes : {n m q r : ℕ} → n ≡ m → n ≡ 0 → r ≡ q → r ≡ by m m q
goes {n} {m} {q} e z f = f ∙ sym (made m m q (sym e ∙ z))

-- all that an early return asks: `search rows`
pub ruleset rows = (taken, passed, told, stops, goes, lt-ltb, le-ltb)
