-- Zero is a case of its own; else the leading zeros give the count.
use borrow.Author.Rules.{rules}
use mathlib.Core.Path.{sym}
use native.Mathlib.Omega.{arith}
use lib.Count.{leading_le}
use Rattle.kmac.proofs.Encoding.{size_zero, size_counted}
use Rattle.kmac.proofs.encodings.byte_count.Goals as goal

pub returns-then-x-eq0 : goal.returns-then-x-eq0
returns-then-x-eq0 c = (rw c.if-x-eq0.true (sym size_zero), search rules)

pub overflow_cast-result : goal.overflow_cast-result
overflow_cast-result c = omega (arith, leading_le 64 c.args.x)

pub overflow_sub-result : goal.overflow_sub-result
overflow_sub-result c = omega (arith, leading_le 64 c.args.x)

pub returns : goal.returns
returns c = size_counted c.args.x c.if-x-eq0.false c.ranges.x.fits
