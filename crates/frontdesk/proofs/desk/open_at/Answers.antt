-- The answer of the opening.
use Rattle.std.proofs.Common.{ap}
use Rattle.bundle.specs.Answers.{Seen}
use Rattle.frontdesk.specs.Day.{opens_at}
use Rattle.frontdesk.proofs.desk.open_at.Goals as goal

pub returns : goal.returns
unfolding opens_at
returns g c = ap (λ (u : Seen). u.answer) c.open_entry-answer.ensures
