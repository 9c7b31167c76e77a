-- The session's own rows and those of a pair, with what a wrap asks of its output.
use Rattle.spongewrap.specs.Refusals.{wrap_refusal}
use Rattle.spongewrap.specs.Desk.{desk}
use Rattle.spongewrap.proofs.Passed.{pair_is}
use Rattle.spongewrap.proofs.orders.of_wrap.Goals as goal

pub returns : goal.returns
unfolding wrap_refusal
returns c =
    let a = c.args in
    pair_is desk a.s a.header a.body _ _ _ _ _ _ c.bad_rate.ensures c.bad_size.ensures c.of_session-own.ensures c.is_short.ensures c.of_parts.ensures
