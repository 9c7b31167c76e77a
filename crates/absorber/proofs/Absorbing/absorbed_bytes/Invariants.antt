-- The loop's invariant: lanes and offset are those after the bytes so far. A byte that fills the block has it permuted.
use mathlib.Core.Path.{◌≡◌}
use Prim.Native.Nat.{◌≤◌, ◌<◌}
use lib.ListN.{length, take}
use Rattle.keccak.specs.Rounds.{f1600}
use Rattle.absorber.specs.Absorbing.{absorb_string}
use Rattle.absorber.proofs.Parts.{at}
use Rattle.absorber.proofs.Absorbing.absorbed_bytes.Given as goal

abbrev pub invariant-loop-byte : goal.invariant-loop-byte
invariant-loop-byte l =
    (l.byte-index ≤ length l.s) × (l.offset < l.rate) × (length l.lanes ≡ 25)
    × (at l.lanes l.offset ≡ absorb_string 64 f1600 l.rate l.fn.self (take l.byte-index l.s))
