-- Where an entry is whole its header stands before its body and its tag; elsewhere there is none.
use Rattle.frontdesk.proofs.Calls.{header_none, header_whole}
use Rattle.frontdesk.proofs.desk.header_at.Goals as goal

pub returns-in-Ok : goal.returns-in-Ok
returns-in-Ok c = header_whole _ _ _ c.in-Ok.ensures

pub returns-in-Err : goal.returns-in-Err
returns-in-Err c = header_none _ _ _ c.in-Err.ensures
