-- The ciphertext is what stands before the tag.
use mathlib.Core.Path.{refl}
use Rattle.frontdesk.proofs.Calls.{pair_opened}
use Rattle.frontdesk.proofs.exchange.open.Goals as goal

pub returns : goal.returns
returns g c = pair_opened _ _ _ _ _ _ refl c.unwrap_in_place-done.ensures
