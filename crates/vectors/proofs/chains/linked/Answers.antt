-- The output is hashed from the last one, and chooses the next length.
use Rattle.vectors.proofs.Links.{link_is}
use borrow.Author.Rules.{rules}
use Rattle.vectors.proofs.chains.linked.Goals as goal

pub returns : goal.returns
returns c = (link_is _ _ _ c.args.link _ _ c.chained-output.ensures c.next_length.ensures.0, search rules)
