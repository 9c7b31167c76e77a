-- The loop's invariant: the first 8 j bytes are those of the state; a turn stores the eight of lane j.
use mathlib.Core.Path.{◌≡◌}
use mathlib.Core.List.{◌++◌}
use Prim.Native.Nat.{◌*◌}
use lib.ListN.{drop}
use Rattle.sponge.specs.Table.{table}
use Rattle.sponge.specs.Bytes.{byte_of}
use Rattle.sponge.proofs.state_bytes.Given as goal

abbrev pub invariant-loop-j : goal.invariant-loop-j
invariant-loop-j l = l.r ≡ table (8 * l.j) (byte_of 64 l.a) ++ drop (8 * l.j) l.initial.r
