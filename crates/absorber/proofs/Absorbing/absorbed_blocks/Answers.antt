-- The loop's invariant: what is left leads to the same end from the lanes so far.
use native.Mathlib.Omega.{arith}
use mathlib.Core.Path.{refl, ◌∙◌}
use Rattle.keccak.specs.Rounds.{f1600}
use Rattle.absorber.proofs.Bytewise.{bytes_drop}
use Rattle.absorber.proofs.Parts.{block_first}
use Rattle.absorber.proofs.Absorbing.absorbed_blocks.Goals as goal

pub loop-rest-init : goal.loop-rest-init
loop-rest-init c = (λ i. (c.type_inv.s i).fits, refl)

pub loop-rest-preserved : goal.loop-rest-preserved
loop-rest-preserved c =
    let l = c.loop-rest in
    let k = c.split_at.ensures in (
      rw k.back (bytes_drop c.args.rate l.rest.now l.invariant.0),
      block_first 64 f1600 _ (omega arith) c.requires.most l.lanes _ l.rest.now _ _ c.requires.inside k.front k.back (omega arith) l.invariant.0 c.absorbed_block-next.ensures ∙ l.invariant.1,
    )

pub returns : goal.returns
returns c =
    let e = c.absorbed_bytes.ensures in
    record { is = e.is ∙ c.loop-rest.invariant.1; inside = e.inside; are_bytes = λ i. (c.type_inv.s i).fits }
