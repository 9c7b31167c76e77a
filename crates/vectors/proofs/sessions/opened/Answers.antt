-- A refused open has a number, and gives no session.
use mathlib.Core.Path.{◌≡◌, refl, ◌∙◌}
use lib.Dec.{eqb}
use borrow.Author.Tests.{ne_eqb}
use Rattle.std.specs.Prelude.{Result, Ok, Err, Some, None}
use Rattle.std.specs.Result.{result_ok}
use Rattle.refusal.specs.Rows.{pick}
use Rattle.refusal.specs.Numbers.{number_of}
use Rattle.refusal.proofs.Numbers.{numbered_refusal}
use Rattle.spongewrap.specs.Sessions.{Answer, answer_of}
use Rattle.spongewrap.specs.declared.Session.{Session}
use Rattle.spongewrap.specs.declared.Refused.{Refused}
use Rattle.vectors.proofs.sessions.opened.Goals as goal

accepted : (r : Result Session Refused) (a : Answer) → answer_of r ≡ a → result_ok r ≡ pick (eqb a.number 0) (Some a.session) None
unfolding pick
accepted (Ok s) a e = rw (← e) refl
accepted (Err x) a e = rw (← e) (rw (ne_eqb (number_of x.refusal) 0 (numbered_refusal x.refusal)) refl)

pub returns : goal.returns
returns c = c.ok.ensures.value ∙ accepted c.open.result _ (rw (c.setting.ensures, c.setting-2.ensures) at c.open.ensures)
