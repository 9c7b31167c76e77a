-- The three counts are those of the definition, and each is at most one more than its length, so that the sum fits.
use native.Mathlib.Omega.{arith}
use Rattle.duplex.specs.Strings.{blocks}
use Rattle.spongewrap.specs.Sessions.{cost, advanced}
use Rattle.spongewrap.proofs.advanced.Goals as goal

pub overflow_sub-more : goal.overflow_sub-more
unfolding blocks
overflow_sub-more c = omega arith

pub returns : goal.returns
unfolding advanced cost
returns c = cc
