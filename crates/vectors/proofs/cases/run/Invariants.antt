-- A turn adds at most one case.
use Rattle.vectors.specs.Bounds.{Tallied}
use Rattle.vectors.proofs.cases.run.Given as goal

abbrev pub invariant-loop : goal.invariant-loop
invariant-loop g l = Tallied l.tally l.counter
