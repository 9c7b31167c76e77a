-- A turn is one round more, and no round is left at the end.
use Prim.Native.Nat.{◌-◌, ◌+◌}
use mathlib.Core.Path.{◌≡◌, ap, ◌∙◌, sym}
use native.Mathlib.Omega.{arith}
use Rattle.keccak.specs.Rounds.{rounds}
use Rattle.keccak.proofs.Rounds.{one_more, none}
use Rattle.keccak.proofs.permuted.Goals as goal

pub loop-constant-preserved : goal.loop-constant-preserved
loop-constant-preserved c =
    let k = c.loop-constant.constant-index in
    ap (rounds 64 24 (24 - (k + 1))) c.one_round-next.ensures ∙ sym (one_more 64 24 k _ (omega arith)) ∙ c.loop-constant.invariant

pub returns : goal.returns
returns c =
    let e : 24 - c.loop-constant.constant-index ≡ 0 = omega arith in
    sym (none 64 24 _) ∙ (rw e at c.loop-constant.invariant)
