-- What is left, absorbed from where the loop stands, leaves the state that the whole string leaves.
use mathlib.Core.Path.{◌≡◌}
use lib.ListN.{length}
use Rattle.keccak.specs.Rounds.{f1600}
use Rattle.duplex.specs.Strings.{absorbed}
use Rattle.duplex.specs.Object.{bit}
use Rattle.duplex.proofs.absorbed.Given as goal

abbrev pub invariant-loop-rest : goal.invariant-loop-rest
invariant-loop-rest l = absorbed 64 f1600 l.rate.bytes l.st (bit l.mid) (bit l.last) l.rest ≡ absorbed 64 f1600 l.rate.bytes l.fn.a (bit l.mid) (bit l.last) l.s

abbrev pub decreases-loop-rest : goal.decreases-loop-rest
decreases-loop-rest l = length l.rest
