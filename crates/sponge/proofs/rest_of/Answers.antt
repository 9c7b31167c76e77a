-- The lane where the piece ends.
use borrow.Author.Rules.{rules}
use mathlib.Core.Path.{◌≡◌, ◌∙◌}
use Prim.Native.Nat.{◌<◌}
use lib.ListN.{length}
use native.Mathlib.Omega.{arith}
use Rattle.std.specs.Int.{w64, from_le_bytes}
use Rattle.sponge.proofs.Words.{laid_out, rest_lane, rest_low}
use Rattle.sponge.proofs.rest_of.Goals as goal

pub returns : goal.returns
returns c =
    let p = c.as_chunks.result.1.now in
    let s = c.args.suffix in
    let h : length p < 8 = search rules in
    let e : c.from_le_bytes.result ≡ from_le_bytes w64 (laid_out p s) = rw c.copy_from_slice.ensures.after at c.from_le_bytes.ensures in
    (e ∙ rest_lane p s h _ c.as_chunks.ensures.back, rw e (rest_low p s h c.args.piece.now c.as_chunks.ensures.back (λ i. omega (arith, c.type_inv.piece i)) (search rules)))
