-- What each call comes to, refused or not: each law's premises are what the code's steps ensure.
use mathlib.Core.Path.{◌≡◌, refl, sym, ap, ◌∙◌}
use mathlib.Core.Bool.{Bool, true, false}
use mathlib.Core.List.{List, ◌++◌}
use Prim.Native.Nat.{ℕ, ◌+◌, ◌/◌, ◌≤◌, ◌<◌}
use native.Mathlib.Omega.{arith}
use lib.Dec.{eqb}
use lib.ListN.{length, take, drop, length-append}
use lib.Seq.{length-take-le, take_at}
use borrow.Author.Tests.{ltb-false, eq-eqb, ne_eqb}
use Rattle.refusal.specs.Rows.{pick, first}
use Rattle.refusal.proofs.Tests.{inside}
use Rattle.refusal.proofs.Rows.{kept, made, all_clear}
use Rattle.sponge.specs.Sponge.{squeeze}
use Rattle.sponge.specs.Hashes.{hash}
use Rattle.sponge.proofs.Squeeze.{length-squeeze}
use Rattle.absorber.specs.declared.Absorbing.{Absorbing}
use Rattle.absorber.specs.Absorbing.{fresh, ended, Absorbed, Ready}
use Rattle.absorber.proofs.Parts.{parts, hash_is}
use Rattle.kmac.specs.Encodings.{right_encode, encode_string, bytepad}
use Rattle.kmac.specs.Functions.{kmac_name, cshake, new_x}
use Rattle.refusal.specs.Limits.{least_size, most_size}
use Rattle.kmac.specs.Refusals.{most_string, cshake_rows, kmac_rows, kmacxof_rows}
use Rattle.kmac.specs.Answers.{seen, settled, judged}

-- ---- what may be relied on where no row refuses

pub cshake_fits : (name custom r : ℕ) → r ≡ first (cshake_rows name custom) → r ≡ 0 → (name ≤ most_string) × (custom ≤ most_string)
cshake_fits name custom r e z =
    let k = all_clear (cshake_rows name custom) refl (sym e ∙ z) in
    (ltb-false most_string name k.0, ltb-false most_string custom k.1.0)

pub kmac_fits : (key out custom r : ℕ) → r ≡ first (kmac_rows key out custom) → r ≡ 0
    → (key ≤ most_size) × (custom ≤ most_string) × (out ≤ most_size)
kmac_fits key out custom r e z =
    let k = all_clear (kmac_rows key out custom) refl (sym e ∙ z) in
    ((inside least_size most_size key k.0).1, ltb-false most_string custom k.1.1.0, (inside least_size most_size out k.1.0).1)

pub kmacxof_fits : (key custom r : ℕ) → r ≡ first (kmacxof_rows key custom) → r ≡ 0 → (key ≤ most_size) × (custom ≤ most_string)
kmacxof_fits key custom r e z =
    let k = all_clear (kmacxof_rows key custom) refl (sym e ∙ z) in
    ((inside least_size most_size key k.0).1, ltb-false most_string custom k.1.0)

-- ---- any call, by its number

pub refused : (n r : ℕ) (o x : List ℕ) → r ≡ n → (r ≡ 0 → ⊥) → seen r o ≡ settled n o x
unfolding settled
refused n r o x e d = rw (← e, kept r o x d)

pub taken : (n r : ℕ) (o x y : List ℕ) → r ≡ n → r ≡ 0 → y ≡ x → seen 0 y ≡ settled n o x
unfolding settled
taken n r o x y e z g = rw (← e, made r o x z, g, z)

pub not_judged : (n r : ℕ) (b : Bool) → r ≡ n → (r ≡ 0 → ⊥) → (record { number = r; is_right = false }) ≡ judged n b
unfolding judged
not_judged n r b e d = rw (← e, kept r false b d)

pub judged_by : (n r : ℕ) (b t : Bool) → r ≡ n → r ≡ 0 → t ≡ b → (record { number = r; is_right = t }) ≡ judged n b
unfolding judged
judged_by n r b t e z g = rw (← e, made r false b z, g)

-- ---- outputs

module _ (w : ℕ) (f : List ℕ → List ℕ) (R : ℕ) where
  pub plain_is : (N S X y : List ℕ) (n : ℕ) → length N + length S ≡ 0 → y ≡ hash w f R 0x1F X n → y ≡ cshake w f R X n N S
  unfolding cshake pick
  plain_is N S X y n e g = rw (eq-eqb (length N + length S) 0 e) g

  module _ (room : 0 < w / 8) (ready : Ready w R 0) where
    -- from all that is absorbed, where there is a name or a customisation
    pub named_is : {X y : List ℕ} {h c : Absorbing} (N S : List ℕ) (n : ℕ) → (length N + length S ≡ 0 → ⊥)
        → Absorbed w f R fresh (bytepad (encode_string N ++ encode_string S) R) h → Absorbed w f R h X c
        → y ≡ squeeze w f R (ended w f R c 0x04) n → y ≡ cshake w f R X n N S
    unfolding cshake pick
    named_is N S n d t u e =
        rw (ne_eqb (length N + length S) 0 d) (e ∙ hash_is w f R room ready.most 0x04 n ready.inside (omega arith) (parts w f R t u))

    pub keyed_is : {X y : List ℕ} {h k m c : Absorbing} (K S : List ℕ) (l n : ℕ) → Absorbed w f R fresh (bytepad (encode_string kmac_name ++ encode_string S) R) h
        → Absorbed w f R h (bytepad (encode_string K) R) k → Absorbed w f R k X m → Absorbed w f R m (right_encode l) c
        → y ≡ squeeze w f R (ended w f R c 0x04) n → y ≡ cshake w f R (new_x R K X l) n kmac_name S
    unfolding new_x
    keyed_is K S l n t u v q g = named_is kmac_name S n (λ d. omega arith) t (parts w f R u (parts w f R v q)) g

    pub length-cshake : (X : List ℕ) (n : ℕ) (N S : List ℕ) → length (cshake w f R X n N S) ≡ n
    unfolding cshake hash
    length-cshake X n N S = either (eqb (length N + length S) 0) _ _ (length-squeeze w f R _ n ready.inside ready.most) (length-squeeze w f R _ n ready.inside ready.most)
      where
        either : (t : Bool) (x y : List ℕ) → length x ≡ n → length y ≡ n → length (pick t x y) ≡ n
        either true x y g h = unfold pick in g
        either false x y g h = unfold pick in h

    -- the output y in the front of a buffer Z
    module _ (X : List ℕ) (n : ℕ) (N S Z y : List ℕ) (l : n ≤ length Z) (e : y ≡ cshake w f R X (length (take n Z)) N S) where
      due-length : length y ≡ n
      due-length = ap length e ∙ length-cshake X (length (take n Z)) N S ∙ length-take-le n Z l

      pub due_fits : n ≤ length (y ++ drop n Z)
      due_fits = omega (arith, length-append y (drop n Z), due-length)

      pub due_is : take n (y ++ drop n Z) ≡ cshake w f R X n N S
      due_is = take_at y (drop n Z) n due-length ∙ e ∙ ap (λ (m : ℕ). cshake w f R X m N S) (length-take-le n Z l)
