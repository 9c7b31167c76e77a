-- What is left, opened and absorbed from where the loop stands, leaves the state that the whole ciphertext leaves.
use mathlib.Core.Path.{◌≡◌}
use lib.ListN.{length}
use Rattle.keccak.specs.Rounds.{f1600}
use Rattle.duplex.specs.Strings.{absorbed, opened}
use Rattle.duplex.proofs.peeked.Given as goal

abbrev pub invariant-loop-unopened : goal.invariant-loop-unopened
invariant-loop-unopened l =
    absorbed 64 f1600 l.rate.bytes l.st 1 0 (opened 64 f1600 l.rate.bytes l.st l.unopened) ≡ absorbed 64 f1600 l.rate.bytes l.fn.a 1 0 (opened 64 f1600 l.rate.bytes l.fn.a l.cipher)

abbrev pub decreases-loop-unopened : goal.decreases-loop-unopened
decreases-loop-unopened l = length l.unopened
