-- The three counts are those of the definition; each but the last of a string's blocks holds 135 of its bytes, so that the sum fits.
use borrow.Author.Rules.{rules}
use native.Mathlib.Omega.{arith}
use Prim.Native.Nat.{ℕ, ◌+◌, ◌*◌, ◌≤◌}
use Rattle.duplex.specs.Strings.{blocks}
use Rattle.sponge.proofs.Pieces.{before_low}
use Rattle.spongewrap.specs.Sessions.{cost}
use Rattle.bundle.specs.Format.{version1}
use Rattle.bundle.proofs.format.calls_of.Goals as goal

most : (n : ℕ) → 135 * blocks 136 n ≤ n + 135
unfolding blocks
most n = omega (arith, before_low 135 n)

pub overflow_add-result : goal.overflow_add-result
overflow_add-result c = omega (arith, most c.args.header, most c.args.body)

pub overflow_sub-result : goal.overflow_sub-result
unfolding blocks
overflow_sub-result c = search rules

pub overflow_add-result-2 : goal.overflow_add-result-2
overflow_add-result-2 c = omega (arith, most c.args.header, most c.args.body)

pub returns : goal.returns
unfolding cost
returns c = (search rules, omega (arith, most version1.tag, most c.args.header, most c.args.body))
