use mathlib.Core.Path.{refl}
use Rattle.refusal.proofs.Numbers.{numbered_refusal}
use Rattle.frontdesk.proofs.Calls.{turn_stops, turn_goes, turn_last}
use Rattle.frontdesk.proofs.desk.open_from.Goals as goal

pub returns-in-Err : goal.returns-in-Err
returns-in-Err g c = turn_stops _ _ _ _ _ _ c.in-Err.ensures c.loop-test.true c.loop.invariant (numbered_refusal _)

pub loop-preserved : goal.loop-preserved
loop-preserved g c = turn_goes _ _ _ _ _ _ c.in-Ok.ensures c.loop-test.true c.loop.invariant refl

pub returns : goal.returns
returns g c = turn_last _ _ _ _ _ _ c.loop.invariant c.loop-test.false
