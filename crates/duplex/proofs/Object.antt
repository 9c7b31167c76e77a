-- The duplex object: what a call gives where its tests refuse it and where they do not, and what they leave a duplexing to know.
use mathlib.Core.Path.{◌≡◌, refl}
use mathlib.Core.List.{List}
use mathlib.Core.Bool.{Bool, true, false, not, ◌&&◌, ◌||◌}
use mathlib.Core.Logic.{◌⊎◌, inl, inr, ⊎_elim}
use Prim.Native.Nat.{ℕ, ◌≤◌, ◌<◌}
use borrow.Author.Tests.{eqb-true, leb-false, ltb-false, not-false}
use lib.Dec.{eqb, leb, ltb, lit<, lit≤}
use lib.ListN.{length, take}
use Rattle.std.proofs.Common.{Ok, Err}
use Rattle.refusal.proofs.Tests.{neither}
use Rattle.keccak.specs.Rounds.{f1600}
use Rattle.sponge.specs.Bytes.{bytes}
use Rattle.duplex.specs.Duplex.{Rate, duplexing}
use Rattle.duplex.specs.Object.{bit, duplex_refused, outcome, seen, duplex_settled, duplexes}
use Rattle.duplex.specs.declared.Duplex.{Duplex}

one_fails : (x y : Bool) → (not x && not y) ≡ false → (x ≡ true) ⊎ (y ≡ true)
one_fails true y e = inl refl
one_fails false y e = inr (not-false y e)

rate_136 : Rate 64 136
rate_136 = record { room = lit< tt; most = lit≤ tt; lanes = refl }

rate_168 : Rate 64 168
rate_168 = record { room = lit< tt; most = lit≤ tt; lanes = refl }

pub duplex_passes : (R piece out : ℕ) → duplex_refused R piece out ≡ false → Rate 64 R × (piece < R) × (out ≤ R)
unfolding duplex_refused
duplex_passes R piece out e =
    let p = neither ((not (eqb R 136) && not (eqb R 168)) || leb R piece) (ltb R out) e in
    let q = neither (not (eqb R 136) && not (eqb R 168)) (leb R piece) p.0 in (
      ⊎_elim (λ t. rw (eqb-true R 136 t) rate_136) (λ t. rw (eqb-true R 168 t) rate_168) (one_fails (eqb R 136) (eqb R 168) q.0),
      leb-false R piece q.1,
      ltb-false R out p.1,
    )

-- ---- what a call gives

module _ (d : Duplex) (p : List ℕ) (b : Bool) (o : List ℕ) (R : ℕ) (r : R ≡ d.rate) where
  pub refusing : duplex_refused R (length p) (length o) ≡ true → seen (outcome (Err (record { duplex = d }))) o ≡ duplexes d p b o
  unfolding duplexes duplex_settled
  refusing e = rw (← r, e)

  pub doing : (l o' : List ℕ) → duplex_refused R (length p) (length o) ≡ false → l ≡ duplexing 64 f1600 R d.lanes p (bit b)
      → o' ≡ take (length o) (bytes 64 l) → seen (outcome (Ok (record { lanes = l; rate = d.rate }))) o' ≡ duplexes d p b o
  unfolding duplexes duplex_settled
  doing l o' e h q = rw (← r, e, q, h)
