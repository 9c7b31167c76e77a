-- A refusal gives all back. Else the session and the lengths fit, and the pair is sealed.
use mathlib.Core.Path.{refl, sym}
use Rattle.refusal.proofs.Numbers.{numbered_refusal}
use Rattle.spongewrap.specs.Desk.{desk}
use Rattle.spongewrap.proofs.Passed.{wrap_fits}
use Rattle.spongewrap.proofs.Settle.{wraps_refused, wraps_taken}
use Rattle.spongewrap.proofs.wrap.Goals as goal

pub seal_next-requires : goal.seal_next-requires
seal_next-requires c = wrap_fits desk _ _ _ _ (sym c.in-Ok.ensures)

pub returns-in-Err : goal.returns-in-Err
returns-in-Err c = rw c.refused.ensures (wraps_refused desk _ _ _ _ _ c.in-Err.ensures (numbered_refusal _))

pub returns-in-Ok : goal.returns-in-Ok
returns-in-Ok c = wraps_taken desk _ _ _ _ _ c.in-Ok.ensures refl _ _ c.seal_next.ensures.0 c.seal_next.ensures.1
