-- Opening what was sealed gives the body back: it goes through the same states, and so unmasks each piece by what masked it.
use mathlib.Core.Path.{◌≡◌, refl, sym, ◌∙◌}
use mathlib.Core.List.{List}
use Prim.Native.Nat.{ℕ, zero, suc, ◌-◌, ◌*◌, ◌≤◌, ◌<◌}
use native.Mathlib.Nat.{suc-mul, zero-mul, le_of_suc-le-suc, le_refl}
use native.Mathlib.Omega.{arith}
use lib.ListN.{length, take}
use lib.Seq.{take_all, take-add}
use Rattle.sponge.specs.Pieces.{piece, before}
use Rattle.sponge.proofs.Pieces.{before_high}
use Rattle.sponge.proofs.Turns.{reached, wrote, written}
use Rattle.duplex.specs.Strings.{sealed, opened}
use Rattle.duplex.proofs.Strings.{taken}
use Rattle.duplex.proofs.Seal.{mask, length-sealed, sealing_piece}
use Rattle.duplex.proofs.Open.{taken_unmasked, opened_written}
use Rattle.duplex.proofs.Masks.{xored_twice}

module _ (w : ℕ) (f : List ℕ → List ℕ) (R : ℕ) (a b : List ℕ) (h : 1 < R) where
  -- the first k pieces of the body
  opens : (k : ℕ) → k ≤ suc (before (R - 1) (length b))
      → (reached (R - 1) (taken_unmasked w f R 1) (sealed w f R a b) a k ≡ reached (R - 1) (taken w f R 1) b a k) × (wrote (R - 1) (taken_unmasked w f R 1) (mask w) (sealed w f R a b) a k ≡ take (k * (R - 1)) b)
  unfolding reached wrote piece
  opens zero l = (refl, rw zero-mul)
  opens (suc k) l =
      let i = opens k (omega arith) in
      let p = sealing_piece w f R a b k (le_of_suc-le-suc l) in (
        rw (p, i.0, xored_twice),
        rw (p, i.0, xored_twice, i.1, suc-mul) (sym (take-add (k * (R - 1)) (R - 1) b)),
      )

  pub round_trip : opened w f R a (sealed w f R a b) ≡ b
  unfolding written
  round_trip =
      let n : ℕ = before (R - 1) (length b) in
      rw (opened_written, length-sealed w f R a b h)
      ((opens (suc n) (le_refl (suc n))).1 ∙ take_all (suc n * (R - 1)) b (omega (arith, before_high (R - 1) (length b) (omega arith), suc-mul n (R - 1))))
