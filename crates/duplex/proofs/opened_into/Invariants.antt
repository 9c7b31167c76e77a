-- What is left, opened and absorbed from where the loop stands, leaves the state that the whole ciphertext leaves, and what it gives is
-- still to be written.
use mathlib.Core.Path.{◌≡◌}
use mathlib.Core.List.{◌++◌}
use Prim.Native.Nat.{◌-◌}
use lib.ListN.{length, drop}
use Rattle.keccak.specs.Rounds.{f1600}
use Rattle.duplex.specs.Strings.{absorbed, opened}
use Rattle.duplex.proofs.Laid.{Laid}
use Rattle.duplex.proofs.opened_into.Given as goal

abbrev pub invariant-loop-at : goal.invariant-loop-at
invariant-loop-at l =
    (absorbed 64 f1600 l.rate.bytes l.st 1 0 (opened 64 f1600 l.rate.bytes l.st (drop l.at l.cipher)) ≡ absorbed 64 f1600 l.rate.bytes l.fn.a 1 0 (opened 64 f1600 l.rate.bytes l.fn.a l.cipher)) × Laid (length l.cipher) (opened 64 f1600 l.rate.bytes l.fn.a l.cipher ++ drop (length l.cipher) l.fn.out) l.at (opened 64 f1600 l.rate.bytes l.st (drop l.at l.cipher)) l.out

abbrev pub decreases-loop-at : goal.decreases-loop-at
decreases-loop-at l = length l.cipher - l.at
