-- `Ran` says which whole blocks are absorbed where the loop stands; what is left then is shorter than a block.
use borrow.Author.Rules.{rules}
use mathlib.Core.Path.{◌∙◌}
use Rattle.keccak.specs.Rounds.{f1600}
use Rattle.sponge.specs.Sponge.{absorb_block}
use Rattle.sponge.specs.Padding.{padded}
use Rattle.sponge.specs.Hashes.{message_blocks}
use Rattle.sponge.proofs.Turns.{ran_none, ran_more, ran_rest, reached_block}
use Rattle.sponge.proofs.absorbed_message.Goals as goal

pub loop-at-init : goal.loop-at-init
loop-at-init c = (search rules, ran_none _ _ _ _ (search rules))

pub loop-at-preserved : goal.loop-at-preserved
loop-at-preserved c = (search rules, search (rules, ran_more))

pub returns : goal.returns
unfolding message_blocks
returns c =
    let s = c.args.suffix in
    let R = c.args.rate in
    ran_rest R _ _ _ (λ st p. absorb_block 64 f1600 st (padded R s p)) _ _ _ c.loop-at.invariant.1 c.absorbed_piece.ensures (search rules) (search rules)
    ∙ reached_block 64 f1600 R (λ p. p) _ _ _ _
