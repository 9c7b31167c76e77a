-- A string that ends before the block does is in it; another goes over the block's edge.
use mathlib.Core.Path.{refl}
use Rattle.keccak.specs.Rounds.{f1600}
use Rattle.absorber.proofs.Parts.{over_edge}
use Rattle.absorber.proofs.Absorbing.absorbed.Goals as goal

pub returns : goal.returns
returns c =
    let k = c.in-Some.ensures.cases in
    over_edge 64 f1600 _ c.args.self c.args.s.now _ _ _ _ _ c.requires.inside refl k.3 k.1 k.2 c.absorbed_bytes-whole.ensures c.absorbed_blocks.ensures
