-- The walk from the first entry is the walk from each place that the loop comes to.
use Prim.Native.Nat.{◌≤◌, ◌-◌}
use mathlib.Core.Path.{◌≡◌}
use lib.ListN.{length}
use Rattle.spongewrap.specs.Refusals.{most_pairs}
use Rattle.bundle.specs.Format.{version1}
use Rattle.bundle.specs.Survey.{entries_from}
use Rattle.bundle.proofs.surveying.survey_entries.Given as goal

abbrev pub invariant-loop-place : goal.invariant-loop-place
invariant-loop-place l = (entries_from version1 l.bundle 5 0 ≡ entries_from version1 l.bundle l.place l.count) × (l.count ≤ most_pairs)

abbrev pub decreases-loop-place : goal.decreases-loop-place
decreases-loop-place l = length l.bundle - l.place
