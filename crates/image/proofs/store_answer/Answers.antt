-- A refusal leaves the image; else it is the new session's.
use mathlib.Core.Path.{sym}
use Rattle.refusal.specs.Rows.{by}
use Rattle.refusal.proofs.Rows.{kept}
use Rattle.refusal.proofs.Numbers.{numbered_refusal}
use Rattle.image.proofs.store_answer.Goals as goal

pub returns-in_err-answer-clause-image : goal.returns-in_err-answer-clause-image
returns-in_err-answer-clause-image c = rw c.in_err-answer.was (sym (kept _ _ _ (numbered_refusal _)))

pub returns-clause-image : goal.returns-clause-image
unfolding by
returns-clause-image c = rw c.in_ok-answer.was c.put_session.ensures
