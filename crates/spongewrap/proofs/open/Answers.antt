-- A refusal gives the session of zeros; else the settings are good.
use mathlib.Core.Path.{refl, sym}
use Rattle.refusal.proofs.Numbers.{numbered_refusal}
use Rattle.spongewrap.specs.Desk.{desk}
use Rattle.spongewrap.proofs.Passed.{open_fits}
use Rattle.spongewrap.proofs.Settle.{opens_refused, opens_taken}
use Rattle.spongewrap.proofs.open.Goals as goal

pub invariant_of-fresh : goal.invariant_of-fresh
invariant_of-fresh c = record { fits = (open_fits desk _ _ _ (sym c.in-Ok.ensures)).rates }

pub returns-in-Ok : goal.returns-in-Ok
returns-in-Ok c = opens_taken desk _ _ _ _ _ c.in-Ok.ensures refl c.fresh.ensures

pub returns-in-Err : goal.returns-in-Err
returns-in-Err c = rw c.refused.ensures (opens_refused desk _ _ _ _ _ c.in-Err.ensures (numbered_refusal _) c.no_session.ensures)
