-- What is left, sealed from where the loop stands, leaves the state that the whole body leaves, and what it gives is still to be written.
use mathlib.Core.Path.{◌≡◌}
use mathlib.Core.List.{◌++◌}
use Prim.Native.Nat.{◌-◌}
use lib.ListN.{length, drop}
use Rattle.keccak.specs.Rounds.{f1600}
use Rattle.duplex.specs.Strings.{absorbed, sealed}
use Rattle.duplex.proofs.Laid.{Laid}
use Rattle.duplex.proofs.sealed_into.Given as goal

abbrev pub invariant-loop-at : goal.invariant-loop-at
invariant-loop-at l =
    (absorbed 64 f1600 l.rate.bytes l.st 1 0 (drop l.at l.body) ≡ absorbed 64 f1600 l.rate.bytes l.fn.a 1 0 l.body) × Laid (length l.body) (sealed 64 f1600 l.rate.bytes l.fn.a l.body ++ drop (length l.body) l.fn.out) l.at (sealed 64 f1600 l.rate.bytes l.st (drop l.at l.body)) l.out

abbrev pub decreases-loop-at : goal.decreases-loop-at
decreases-loop-at l = length l.body - l.at
