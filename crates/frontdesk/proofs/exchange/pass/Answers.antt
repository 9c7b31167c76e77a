-- What the one side sealed is what the other opens.
use Rattle.frontdesk.proofs.Calls.{pair_sealed, pair_passed}
use Rattle.frontdesk.proofs.exchange.pass.Goals as goal

pub returns : goal.returns
returns g c =
    let e = c.wrap_in_place-done.ensures in
    (pair_sealed _ _ _ _ _ e, pair_passed _ _ _ _ _ _ e c.open.ensures)
