-- A number below a million takes one digit more.
use Rattle.std.proofs.Common.{◌<◌}
use Rattle.vectors.proofs.Spelled.{Read}
use Rattle.vectors.proofs.named.number.Given as goal

abbrev pub invariant-loop-b : goal.invariant-loop-b
invariant-loop-b l = record {
  fits : l.n < 10000000;
  read : Read l.text l.n l.b-index;
}
