-- 0 - 1 is 0, so that an empty string takes one block; a quotient is at most what is divided.
use borrow.Author.Rules.{rules}
use Prim.Native.Nat.{◌-◌}
use native.Mathlib.Nat.{zero-div, div-le_self}
use native.Mathlib.Numerals.{add-one}
use native.Mathlib.Omega.{arith}
use Rattle.sponge.specs.Pieces.{before}
use Rattle.duplex.specs.Strings.{blocks}
use Rattle.spongewrap.proofs.block_count.Goals as goal

pub returns-then-n-eq0 : goal.returns-then-n-eq0
unfolding blocks before
returns-then-n-eq0 c = (rw (c.if-n-eq0.true, zero-div), search rules)

pub overflow_add-result : goal.overflow_add-result
overflow_add-result c = omega (arith, div-le_self (c.args.n - 1) (c.args.rate - 1))

pub returns : goal.returns
unfolding blocks before
returns c = (add-one _, omega (arith, div-le_self (c.args.n - 1) (c.args.rate - 1)))
