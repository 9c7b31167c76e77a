-- Lists of two lengths are not the same; of one length they are just where their difference is 0.
use borrow.Author.Rules.{rules}
use Rattle.compare.proofs.Same.{other_length, by_difference}
use Rattle.compare.proofs.is_same.Goals as goal

pub returns-then-x-y : goal.returns-then-x-y
returns-then-x-y c = search (rules, other_length)

pub returns : goal.returns
returns c = search (rules, by_difference)
