-- In an image of the right length the answer is the session's own, settled.
use mathlib.Core.Path.{refl}
use mathlib.Core.List.{[]}
use Rattle.spongewrap.specs.Desk.{desk}
use Rattle.spongewrap.specs.Sessions as sessions
use Rattle.image.specs.Calls.{opens_image}
use Rattle.image.proofs.Calls.{called}
use Rattle.image.proofs.open.Goals as goal

pub returns : goal.returns
unfolding opens_image
returns c =
    called _ _ [] (rw c.in_ok-image.ensures.ok_part at c.as_mut_array.ensures.cases) (λ _. sessions.seen (sessions.opens desk c.args.key.now c.args.rate c.args.tag) []) _ refl
    _ [] (rw c.open.ensures) _ _ c.store_answer.ensures.number c.store_answer.ensures.image
