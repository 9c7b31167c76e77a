-- The loop's invariant: the block's first j lanes are mixed in.
use mathlib.Core.Path.{◌≡◌}
use Prim.Native.Nat.{◌*◌}
use lib.ListN.{take}
use Rattle.sponge.specs.Bytes.{mixed}
use Rattle.sponge.proofs.mixed.Given as goal

abbrev pub invariant-loop-j : goal.invariant-loop-j
invariant-loop-j l = l.r ≡ mixed 64 l.fn.a (take (8 * l.j) l.b)
