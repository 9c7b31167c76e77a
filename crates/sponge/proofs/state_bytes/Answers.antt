-- The loop's invariant: the first 8 j bytes are those of the state; a turn stores the eight of lane j.
use borrow.Author.Rules.{rules}
use mathlib.Core.Path.{◌∙◌, refl}
use native.Mathlib.Omega.{arith}
use Rattle.sponge.specs.Table.{table}
use Rattle.sponge.specs.Bytes.{bytes}
use Rattle.sponge.proofs.Table.{done}
use Rattle.sponge.proofs.Words.{lane_stored}
use Rattle.sponge.proofs.state_bytes.Goals as goal

pub loop-j-init : goal.loop-j-init
unfolding table
loop-j-init c = refl

pub loop-j-preserved : goal.loop-j-preserved
loop-j-preserved c =
    lane_stored _ _ _ _ c.loop-j.j _ (omega arith) c.loop-j.invariant (c.copy_from_slice.ensures.after ∙ c.to_le_bytes.ensures)

pub returns : goal.returns
unfolding bytes
returns c = done _ _ _ _ _ c.loop-j.invariant (search rules) (search rules) (search rules)
