-- The loop's invariant: the rounds that are left take b to what all 24 take `a` to.
use Prim.Native.Nat.{◌-◌}
use mathlib.Core.Path.{◌≡◌}
use Rattle.keccak.specs.Rounds.{rounds}
use Rattle.keccak.proofs.permuted.Given as goal

abbrev pub invariant-loop-constant : goal.invariant-loop-constant
invariant-loop-constant l = rounds 64 24 (24 - l.constant-index) l.b ≡ rounds 64 24 24 l.fn.a
