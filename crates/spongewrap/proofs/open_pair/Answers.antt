-- A tag that is not the one due after a pass that writes nothing gives all back. Else the body is written.
use mathlib.Core.Path.{refl}
use Rattle.spongewrap.specs.Desk.{desk}
use Rattle.spongewrap.proofs.Settle.{unwraps_other, unwraps_taken}
use Rattle.spongewrap.proofs.open_pair.Goals as goal

pub returns-in-None : goal.returns-in-None
returns-in-None c = rw c.refused.ensures (unwraps_other desk _ _ _ _ _ c.requires.0 _ _ c.headed-head.ensures c.in-None.ensures refl)

pub returns-in-Some : goal.returns-in-Some
returns-in-Some c =
    unwraps_taken desk _ _ _ _ _ c.requires.0 _ _ c.headed-head.ensures c.in-Some.ensures _ refl _ _ c.advanced.ensures c.opened_into.ensures.1
