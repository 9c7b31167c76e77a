-- `Ran` says which whole blocks are absorbed where the loop stands; what is left then is shorter than a block.
use Prim.Native.Nat.{◌≤◌, ◌-◌}
use lib.ListN.{length}
use Rattle.keccak.specs.Rounds.{f1600}
use Rattle.sponge.specs.Sponge.{absorb_block}
use Rattle.sponge.proofs.Turns.{Ran}
use Rattle.sponge.proofs.absorbed_message.Given as goal

abbrev pub invariant-loop-at : goal.invariant-loop-at
invariant-loop-at l = (l.at ≤ length l.message) × Ran l.rate (absorb_block 64 f1600) l.message l.initial.st l.at l.st

abbrev pub decreases-loop-at : goal.decreases-loop-at
decreases-loop-at l = length l.message - l.at
