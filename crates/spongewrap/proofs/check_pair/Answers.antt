-- The state after a pass that writes nothing is the one that the tag is drawn from.
use Rattle.spongewrap.proofs.check_pair.Goals as goal

pub returns : goal.returns
returns c = rw (← c.peeked.ensures) c.check_tag.ensures
