-- The loop's invariant: what is left leads to the same end from the lanes so far.
use mathlib.Core.Path.{◌≡◌}
use lib.ListN.{length}
use Rattle.keccak.specs.Rounds.{f1600}
use Rattle.absorber.specs.Absorbing.{AreBytes, edge, absorb_string}
use Rattle.absorber.proofs.Absorbing.absorbed_blocks.Given as goal

abbrev pub invariant-loop-rest : goal.invariant-loop-rest
invariant-loop-rest l =
    AreBytes l.rest × (absorb_string 64 f1600 l.rate (edge l.lanes) l.rest ≡ absorb_string 64 f1600 l.rate (edge l.initial.lanes) l.s)

abbrev pub decreases-loop-rest : goal.decreases-loop-rest
decreases-loop-rest l = length l.rest
