-- The bytes so far stand at the front of what was there.
use Rattle.std.proofs.Common.{◌≡◌, ℕ, ◌<◌, ◌++◌, take, drop, get_or}
use Rattle.vectors.specs.Spelled.{bytes}
use Rattle.vectors.proofs.named.decode.Given as goal

abbrev pub invariant-loop-i : goal.invariant-loop-i
invariant-loop-i l = record {
  put : l.out ≡ take l.i (bytes l.fn.digits) ++ drop l.i l.initial.out;
  spelled : (k : ℕ) → k < l.i → get_or (bytes l.fn.digits) k 0 < 256;
}
