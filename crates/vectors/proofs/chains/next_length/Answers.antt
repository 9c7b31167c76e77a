-- The two bytes are the last of the output.
use mathlib.Core.Path.{ap, ◌∙◌}
use Prim.Native.Nat.{ℕ, ◌+◌, ◌-◌, ◌%◌}
use native.Mathlib.Omega.{arith}
use Rattle.vectors.specs.Chains.{chosen}
use borrow.Author.Rules.{rules}
use Rattle.vectors.proofs.chains.next_length.Goals as goal

pub returns : goal.returns
unfolding chosen
returns c =
    let a = c.args in
    (c.within.ensures.0 ∙ ap (λ (x : ℕ). a.least + x % (a.most - a.least + 1)) (omega arith), search rules)
