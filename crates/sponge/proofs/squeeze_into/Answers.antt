-- `Squeezed` says what is written where the loop stands, over any step from state to state: here the permutation.
use borrow.Author.Rules.{rules}
use Rattle.sponge.proofs.Turns.{wrote_none}
use Rattle.sponge.proofs.Squeeze.{given-length, squeezed_more, squeezed_last}
use Rattle.sponge.proofs.squeeze_into.Goals as goal

pub loop-out-init : goal.loop-out-init
loop-out-init c = (search rules, search rules, wrote_none _ _ _ _ _ (given-length _ _ (search rules)) (search rules) _)

pub loop-out-preserved : goal.loop-out-preserved
loop-out-preserved c = (search rules, search rules, search (rules, squeezed_more))

pub returns : goal.returns
returns c = search (rules, squeezed_last)
