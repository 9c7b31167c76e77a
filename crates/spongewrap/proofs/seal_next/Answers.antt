-- Header, body and tag go through in turn, and the session is advanced by their lengths.
use borrow.Author.Rules.{rules}
use Rattle.spongewrap.proofs.Settle.{next_is, sealed_is}
use Rattle.spongewrap.proofs.seal_next.Goals as goal

pub returns : goal.returns
returns c = (search (rules, next_is), search (rules, sealed_is))
