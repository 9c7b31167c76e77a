-- Laws of `table`, and of a loop that fills a list d from the front: r ≡ table i f ++ drop i d where it stands at i.
use mathlib.Core.Path.{◌≡◌, refl, sym, ◌∙◌}
use mathlib.Core.List.{List, [], ◌∷◌, ◌++◌, append-nil}
use mathlib.Core.Logic.{⊎_elim}
use Prim.Native.Nat.{ℕ, zero, suc, ◌+◌, ◌≤◌, ◌<◌}
use native.Mathlib.Nat.{le_refl, le_step, not-suc-le-zero, eq-or-lt_of_le, le_of_suc-le-suc}
use native.Mathlib.Numerals.{add-one}
use native.Mathlib.Omega.{arith}
use lib.ListN.{length, get_or, set, take, drop, length-append, drop_of_length-le, get_or-append}
use lib.Seq.{drop-cons, set_at, set-append_left, append_snoc, take-suc, get_or_at}
use Rattle.sponge.specs.Table.{table}

pub length-table : (n : ℕ) (f : ℕ → ℕ) → length (table n f) ≡ n
unfolding table
length-table zero f = refl
length-table (suc n) f = omega (arith, length-append (table n f) (f n ∷ []), length-table n f)

pub table_at : (n : ℕ) (f : ℕ → ℕ) (i : ℕ) → i < n → get_or (table n f) i 0 ≡ f i
unfolding table
table_at zero f i h = absurd (not-suc-le-zero h)
table_at (suc n) f i h =
    ⊎_elim (λ e. rw e (get_or_at (table n f) (f n) [] 0 n (length-table n f)))
    (λ l. get_or-append (table n f) (f n ∷ []) 0 i (omega (arith, length-table n f)) ∙ table_at n f i l)
    (eq-or-lt_of_le (le_of_suc-le-suc h))

pub table_ext : (n : ℕ) (f g : ℕ → ℕ) → ((i : ℕ) → i < n → f i ≡ g i) → table n f ≡ table n g
unfolding table
table_ext zero f g h = refl
table_ext (suc n) f g h = rw (table_ext n f g (λ i l. h i (le_step l)), h n (le_refl (suc n)))

-- one element anew
pub table-set : (n : ℕ) (f g : ℕ → ℕ) (l v : ℕ) → l < n → ((j : ℕ) → j < l → f j ≡ g j) → ((j : ℕ) → l < j → f j ≡ g j) → v ≡ g l
    → set (table n f) l v ≡ table n g
unfolding table
table-set zero f g l v h b a e = absurd (not-suc-le-zero h)
table-set (suc n) f g l v h b a e =
    ⊎_elim (λ q. rw (e, q, set_at (table n f) (f n) [] (g n) n (length-table n f), table_ext n f g (λ j k. b j (omega arith))))
    (λ q. let k : l < length (table n f) = omega (arith, length-table n f) in
    rw (set-append_left (table n f) (f n ∷ []) l v k, table-set n f g l v q b a e, a n q))
    (eq-or-lt_of_le (le_of_suc-le-suc h))

-- the table of a list's own elements is its front
pub table-get_or : (p : List ℕ) (n : ℕ) → n ≤ length p → table n (λ i. get_or p i 0) ≡ take n p
unfolding table
table-get_or p zero h = refl
table-get_or p (suc n) h = let k : n ≤ length p = omega arith in rw (table-get_or p n k, take-suc p n 0 h)

-- ---- a loop that fills d

-- one store more
pub turn : (f : ℕ → ℕ) (d : List ℕ) (i : ℕ) (r : List ℕ) (v : ℕ) → r ≡ table i f ++ drop i d → i < length d → v ≡ f i
    → set r i v ≡ table (i + 1) f ++ drop (i + 1) d
unfolding table
turn f d i r v e h w =
    rw (e, w, add-one, drop-cons d i 0) (set_at (table i f) (get_or d i 0) (drop (suc i) d) (f i) i (length-table i f) ∙ sym (append_snoc (table i f) (f i) (drop (suc i) d)))

-- nothing of d is left
pub whole : (x y d : List ℕ) (n : ℕ) → x ≡ y ++ drop n d → length d ≤ n → x ≡ y
whole x y d n e h = rw (e, drop_of_length-le d h, append-nil)

-- it has filled d
pub done : (f : ℕ → ℕ) (d : List ℕ) (n i : ℕ) (r : List ℕ) → r ≡ table i f ++ drop i d → i ≤ n → n ≤ i → length d ≡ n → r ≡ table n f
done f d n i r e h k l = let q : i ≡ n = omega arith in rw (← q) (whole r (table i f) d i e (omega arith))
