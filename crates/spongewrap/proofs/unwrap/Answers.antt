-- A refusal gives all back. Else the session and the lengths fit, and the pair is opened.
use mathlib.Core.Path.{sym}
use Rattle.refusal.proofs.Numbers.{numbered_refusal}
use lib.ListN.{length}
use Rattle.spongewrap.specs.Desk.{desk}
use Rattle.spongewrap.proofs.Passed.{unwrap_fits}
use Rattle.spongewrap.proofs.Settle.{unwraps_refused}
use Rattle.spongewrap.proofs.unwrap.Goals as goal

pub open_pair-requires : goal.open_pair-requires
open_pair-requires c =
    let a = c.args in
    let e = sym c.in-Ok.ensures in
    let f = unwrap_fits desk a.s (length a.header.now) (length a.cipher.now) (length a.out.now) e in
    (e, f.0, f.1)

pub returns-in-Err : goal.returns-in-Err
returns-in-Err c = rw c.refused.ensures (unwraps_refused desk _ _ _ _ _ _ c.in-Err.ensures (numbered_refusal _))
