-- Entry zero is refused, or has opened, and the others follow or don't.
use Rattle.frontdesk.proofs.Calls.{zero_stops, zero_opens}
use Rattle.frontdesk.proofs.desk.open.Goals as goal

pub returns-in-Ok : goal.returns-in-Ok
returns-in-Ok g c = zero_opens _ _ _ _ _ c.open_session.ensures _ c.in-Ok.ensures c.open_rest.ensures

pub returns-in-Err : goal.returns-in-Err
returns-in-Err g c = zero_stops _ _ _ _ _ c.open_session.ensures _ c.in-Err.ensures
