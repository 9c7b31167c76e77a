-- A turn is one link more.
use mathlib.Core.Path.{◌≡◌}
use Rattle.vectors.specs.Bounds.{Chain}
use Rattle.vectors.specs.Chains.{links}
use Rattle.vectors.proofs.chains.thousand.Given as goal

abbrev pub invariant-chain : goal.invariant-chain
invariant-chain l = Chain l.least l.last.next l.most × (l.last ≡ links l.hash l.least l.most l.counter l.initial.last)
