-- Each byte so far is the piece's, xored with the state's.
use mathlib.Core.Path.{◌≡◌}
use Prim.Native.Nat.{ℕ, ◌<◌}
use lib.ListN.{get_or}
use lib.Bits.{bit_xor}
use Rattle.duplex.proofs.mask_into.Given as goal

abbrev pub invariant-loop-i : goal.invariant-loop-i
invariant-loop-i l = (k : ℕ) → k < l.i → get_or l.out k 0 ≡ bit_xor (get_or l.p k 0) (get_or l.z k 0)
