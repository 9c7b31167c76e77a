-- An entry takes more bytes than it adds to the sum, and its end is within the bytes, so that the sum fits and less is left.
use Rattle.std.proofs.Common.{◌-◌, ◌≤◌, length}
use Rattle.lister.proofs.print_entries.Given as goal

abbrev pub invariant-loop-place : goal.invariant-loop-place
invariant-loop-place g l = (l.k ≤ l.place) × (l.sum ≤ l.place)

abbrev pub decreases-loop-place : goal.decreases-loop-place
decreases-loop-place g l = length l.bytes - l.place
