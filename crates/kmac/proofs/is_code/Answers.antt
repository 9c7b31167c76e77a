-- The code that is due stands in the front of a buffer, and the given one is compared to it.
use borrow.Author.Rules.{rules}
use mathlib.Core.Path.{sym, ap, ◌∙◌}
use Prim.Native.Nat.{ℕ}
use native.Mathlib.Omega.{arith}
use lib.ListN.{replicate}
use lib.Seq.{length-take-le}
use Rattle.keccak.specs.Rounds.{f1600}
use Rattle.compare.specs.Same.{same}
use Rattle.kmac.specs.Functions.{kmac}
use Rattle.kmac.proofs.Settle.{due_fits, due_is}
use Rattle.kmac.proofs.is_code.Goals as goal

pub slice_bounds-keyed_into-end : goal.slice_bounds-keyed_into-end
slice_bounds-keyed_into-end g c = sym (length-take-le _ _ (search rules))

pub slice_bounds-due-end-2 : goal.slice_bounds-due-end-2
slice_bounds-due-end-2 g c =
    due_fits 64 f1600 _ (omega arith) (search rules) _ _ _ _ (replicate {A = ℕ} 256 0) _ (search rules) c.keyed_into.ensures

pub slice_bounds-is_same-end : goal.slice_bounds-is_same-end
slice_bounds-is_same-end g c =
    sym (length-take-le _ _ (due_fits 64 f1600 _ (omega arith) (search rules) _ _ _ _ (replicate {A = ℕ} 256 0) _ (search rules) c.keyed_into.ensures))

pub returns : goal.returns
unfolding kmac
returns g c =
    c.is_same.ensures
    ∙ ap (same _) (due_is 64 f1600 _ (omega arith) (search rules) _ _ _ _ (replicate {A = ℕ} 256 0) _ (search rules) c.keyed_into.ensures)
