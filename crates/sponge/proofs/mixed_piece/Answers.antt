-- The whole lanes are mixed in, then the lane where the piece ends, and the last bit.
use borrow.Author.Rules.{rules}
use mathlib.Core.Path.{refl, sym}
use mathlib.Core.List.{[], ◌∷◌, ◌++◌}
use Prim.Native.Nat.{◌+◌, ◌-◌, ◌*◌, ◌/◌, ◌^◌, ◌≤◌}
use native.Mathlib.Omega.{arith}
use lib.ListN.{length, length-append, length-take}
use lib.Seq.{length-take-le}
use Rattle.sponge.proofs.Taken.{mixed_rest, rest_small, last_bit}
use Rattle.sponge.proofs.mixed_piece.Goals as goal

pub slice_bounds-mixed-end : goal.slice_bounds-mixed-end
slice_bounds-mixed-end c = sym (length-take-le _ _ (search rules))

pub mixed-r-requires : goal.mixed-r-requires
mixed-r-requires c = simp length-take (search rules)

pub returns : goal.returns
returns c =
    let a = c.before.before.before.before.args in
    let p = a.piece.now in
    let b = p ++ (a.suffix ∷ []) in
    let k = length p / 8 in
    let n : length b ≤ 8 * (k + 1) = omega (arith, length-append p (a.suffix ∷ [])) in
    last_bit a.rate a.suffix p (search rules) 64 7 refl a.a (a.rate / 8 - 1) (omega arith) (omega arith) _
    (mixed_rest 64 (omega arith) a.a p _ a.suffix k _ c.mixed-r.ensures (omega arith) (omega arith) (omega arith) c.rest_of.ensures.0)
    (rest_small 64 b k (a.rate / 8 - 1) _ (2 ^ 63) c.rest_of.ensures.0 c.rest_of.ensures.1 (omega arith) n)
