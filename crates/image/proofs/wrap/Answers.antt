-- In an image of the right length the answer is the session's own, settled.
use Rattle.spongewrap.specs.Desk.{desk}
use Rattle.spongewrap.specs.Sessions as sessions
use Rattle.image.specs.Calls.{wraps_image}
use Rattle.image.proofs.Calls.{called}
use Rattle.image.proofs.wrap.Goals as goal

pub returns : goal.returns
unfolding wraps_image
returns c =
    called _ _ _ (rw c.in_ok-image.ensures.ok_part at c.as_mut_array.ensures.cases) (λ s. sessions.wraps desk s c.args.header.now c.args.body.now c.args.out.now) _ c.session_of.ensures
    _ _ c.wrap.ensures _ _ c.store_answer.ensures.number c.store_answer.ensures.image
