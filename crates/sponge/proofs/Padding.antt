-- Padding: a padded piece's length and bytes.
use mathlib.Core.Path.{◌≡◌, refl, sym, ◌∙◌}
use mathlib.Core.List.{List, [], ◌∷◌, ◌++◌}
use Prim.Native.Nat.{ℕ, zero, suc, ◌+◌, ◌-◌, ◌<◌}
use native.Mathlib.Nat.{zero-add, not-suc-le-zero}
use native.Mathlib.Omega.{arith}
use lib.ListN.{length, get_or, replicate, length-append, length-replicate, get_or-replicate, get_or-append}
use lib.Seq.{get_or_at, get_or-append-add}
use Rattle.sponge.specs.Padding.{tail, padded}

pub length-tail : (s m : ℕ) → length (tail s m) ≡ suc m
unfolding tail
length-tail s zero = refl
length-tail s (suc m) = omega (arith, length-append (replicate {A = ℕ} m 0) (128 ∷ []), length-replicate {A = ℕ} m 0)

-- a padded piece is a whole block
pub length-padded : (R s : ℕ) (p : List ℕ) → length p < R → length (padded R s p) ≡ R
unfolding padded
length-padded R s p h =
    omega (arith, length-append p (tail s (R - 1 - length p)), length-tail s (R - 1 - length p))

-- ---- byte by byte: a padded piece is the piece and the byte s, with 128 more in the block's last byte

tail_other : (s m i : ℕ) → i < m → get_or (tail s m) i 0 ≡ get_or (s ∷ []) i 0
unfolding tail
tail_other s zero i h = absurd (not-suc-le-zero h)
tail_other s (suc m) zero h = refl
tail_other s (suc m) (suc i) h =
    get_or-append (replicate m 0) (128 ∷ []) 0 i (omega (arith, length-replicate {A = ℕ} m 0)) ∙ get_or-replicate m i 0 0 (omega arith)

tail_last : (s m : ℕ) → get_or (tail s m) m 0 ≡ get_or (s ∷ []) m 0 + 128
unfolding tail
tail_last s zero = refl
tail_last s (suc m) = get_or_at (replicate m 0) 128 [] 0 m (length-replicate {A = ℕ} m 0)

pub append-same : (p t u : List ℕ) (i : ℕ) → ((d : ℕ) → i ≡ length p + d → get_or t d 0 ≡ get_or u d 0) → get_or (p ++ t) i 0 ≡ get_or (p ++ u) i 0
append-same [] t u i h = h i (sym (zero-add i))
append-same (x ∷ p) t u zero h = refl
append-same (x ∷ p) t u (suc i) h = append-same p t u i (λ d e. h d (omega arith))

module _ (R s : ℕ) (p : List ℕ) (h : length p < R) where
  pub padded_other : (i : ℕ) → i < R - 1 → get_or (padded R s p) i 0 ≡ get_or (p ++ (s ∷ [])) i 0
  unfolding padded
  padded_other i k =
      append-same p (tail s (R - 1 - length p)) (s ∷ []) i (λ d e. tail_other s (R - 1 - length p) d (omega arith))

  pub padded_last : get_or (padded R s p) (R - 1) 0 ≡ get_or (p ++ (s ∷ [])) (R - 1) 0 + 128
  unfolding padded
  padded_last =
      let m : ℕ = R - 1 - length p in
      let e : length p + m ≡ R - 1 = omega arith in
      let q : get_or (p ++ tail s m) (length p + m) 0 ≡ get_or (p ++ (s ∷ [])) (length p + m) 0 + 128 = rw (get_or-append-add, get_or-append-add) (tail_last s m) in
      rw e at q
