-- The loop's invariant: the block's first j lanes are mixed in.
use borrow.Author.Rules.{rules}
use native.Mathlib.Omega.{arith}
use mathlib.Core.List.{[]}
use Prim.Native.Nat.{◌*◌}
use Rattle.sponge.proofs.Taken.{mixed_none, mixed_more, mixed_all}
use Rattle.sponge.proofs.Words.{chunk_lane}
use Rattle.sponge.proofs.mixed.Goals as goal

pub loop-j-init : goal.loop-j-init
loop-j-init c = mixed_none 64 _ (search rules)

pub loop-j-preserved : goal.loop-j-preserved
loop-j-preserved c =
    let x = chunk_lane _ [] _ _ c.loop-j.j _ c.as_chunks.ensures.front (search rules) c.from_le_bytes.ensures in
    mixed_more 64 (omega arith) _ _ _ _ _ (search rules) c.loop-j.invariant x

pub returns : goal.returns
returns c = mixed_all _ _ _ _ (8 * c.loop-j.j) c.loop-j.invariant (search rules)
