-- The frame bits are the definition's.
use borrow.Author.Rules.{rules}
use Rattle.spongewrap.specs.SpongeWrap.{headed}
use Rattle.spongewrap.proofs.headed.Goals as goal

pub returns : goal.returns
returns c = unfold headed in search rules
