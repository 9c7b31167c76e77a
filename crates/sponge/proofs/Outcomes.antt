-- Any two outcomes that the contract (`Post`) of a hash or of `state_bytes` allows of one call are equal, since it gives the outcome by an equation.
use mathlib.Core.Path.{◌≡◌, sym, ◌∙◌}
use mathlib.Core.List.{List}
use Prim.Native.Nat.{ℕ}
use contract.Lifetimes.{Lfts}
use Rattle.sponge.proofs.state_bytes.Reads as state_bytes
use Rattle.sponge.proofs.sha3_256.Reads as sha3_256
use Rattle.sponge.proofs.shake128.Reads as shake128
use Rattle.sponge.proofs.shake256.Reads as shake256

one_outcome : {x y d : List ℕ} → x ≡ d → y ≡ d → x ≡ y
one_outcome e f = e ∙ sym f

-- the result
pub sha3_256_outcome : (κs : Lfts 1) (a : _) (x y : List ℕ) (s t : _) → sha3_256.Post κs a x s → sha3_256.Post κs a y t → x ≡ y
sha3_256_outcome κs a x y s t = one_outcome

pub state_bytes_outcome : (κs : Lfts 0) (a : _) (x y : List ℕ) (s t : _) → state_bytes.Post κs a x s → state_bytes.Post κs a y t → x ≡ y
state_bytes_outcome κs a x y s t = one_outcome

-- what the lent slice holds
pub shake128_outcome : (κs : Lfts 2) (a x y s t : _) → shake128.Post κs a x s → shake128.Post κs a y t → s.1.0.now ≡ t.1.0.now
shake128_outcome κs a x y s t = one_outcome

pub shake256_outcome : (κs : Lfts 2) (a x y s t : _) → shake256.Post κs a x s → shake256.Post κs a y t → s.1.0.now ≡ t.1.0.now
shake256_outcome κs a x y s t = one_outcome
