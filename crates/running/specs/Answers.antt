-- The running session's calls: the answer beside the session that is left behind the reference.
use Rattle.std.specs.Prelude.{Result}
use Rattle.refusal.specs.Numbers.{told}
use Rattle.refusal.specs.declared.Refusal.{Refusal}
use Rattle.spongewrap.specs.Sessions.{Answer}
use Rattle.spongewrap.specs.declared.Session.{Session}

abbrev pub left : Result Unit Refusal → Session → Answer
left r s = record { number = told r; session = s }
