-- The padded piece is mixed in, and the state permuted.
use mathlib.Core.Path.{ap, ◌∙◌}
use Rattle.keccak.specs.Rounds.{f1600}
use Rattle.sponge.specs.Sponge.{absorb_block}
use Rattle.sponge.proofs.absorbed_piece.Goals as goal

pub returns : goal.returns
unfolding absorb_block
returns c = c.permuted.ensures ∙ ap f1600 c.mixed_piece.ensures
