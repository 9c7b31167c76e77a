-- What is left, drawn from where the loop stands, ends at the state that all of it ends at, and is still to be written.
use mathlib.Core.Path.{◌≡◌}
use Prim.Native.Nat.{◌-◌}
use lib.ListN.{length}
use Rattle.keccak.specs.Rounds.{f1600}
use Rattle.duplex.specs.Duplex.{drawn, state_after}
use Rattle.duplex.proofs.Laid.{Laid}
use Rattle.duplex.proofs.drawn_into.Given as goal

abbrev pub invariant-loop-out : goal.invariant-loop-out
invariant-loop-out l =
    (state_after 64 f1600 l.rate.bytes l.st (length l.fn.out - l.at) ≡ state_after 64 f1600 l.rate.bytes l.fn.a (length l.fn.out)) × Laid (length l.fn.out) (drawn 64 f1600 l.rate.bytes l.fn.a (length l.fn.out)) l.at (drawn 64 f1600 l.rate.bytes l.st (length l.fn.out - l.at)) l.out

abbrev pub decreases-loop-out : goal.decreases-loop-out
decreases-loop-out l = length l.fn.out - l.at
