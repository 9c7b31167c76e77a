-- The turns that are done are the definition's.
use mathlib.Core.Path.{◌≡◌}
use Rattle.keccak.specs.Rounds.{f1600}
use Rattle.sponge.specs.Sponge.{iterate}
use Rattle.probe.proofs.hashing.permuted_times.Given as goal

abbrev pub invariant-loop-turn : goal.invariant-loop-turn
invariant-loop-turn l = l.a ≡ iterate f1600 l.fn.a l._turn
