-- The parts are unwrapped, and the answer gets its place.
use Rattle.bundle.proofs.Openings.{open_taken, open_stopped}
use Rattle.bundle.proofs.opening.open_whole.Goals as goal

pub returns-in-Ok : goal.returns-in-Ok
returns-in-Ok c = let p = c.requires in open_taken _ _ _ _ _ _ p.0 p.1 c.type_inv.bundle _ _ c.in-Ok.ensures

pub returns-in-Err : goal.returns-in-Err
returns-in-Err c = let p = c.requires in open_stopped _ _ _ _ _ _ p.0 p.1 c.type_inv.bundle _ _ _ c.in-Err.ensures
