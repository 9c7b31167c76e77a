-- The session's own rows and those of a pair, with what an unwrap asks of its output.
use mathlib.Core.Path.{refl}
use Rattle.spongewrap.specs.Desk.{desk}
use Rattle.spongewrap.proofs.Passed.{pair_is}
use Rattle.spongewrap.proofs.orders.of_unwrap.Goals as goal

pub returns : goal.returns
returns c =
    let a = c.args in
    pair_is desk a.s a.header a.body _ _ _ _ _ _ c.bad_rate.ensures c.bad_size.ensures c.of_session-own.ensures refl c.of_parts.ensures
