-- Within a block the zeros end it. At its edge none is lacking: that goal, which has no answer, `filled_none` proves, by the attribute.
use borrow.Author.Rules.{rules}
use native.Mathlib.Omega.{arith}
use Rattle.keccak.specs.Rounds.{f1600}
use Rattle.absorber.proofs.Parts.{filled_more}
use Rattle.absorber.proofs.Absorbing.filled.Goals as goal

pub returns : goal.returns
returns c =
    (filled_more 64 f1600 _ (omega arith) (search rules) _ _ (search rules) (λ e. omega arith) (search rules) c.permuted.ensures, search rules)
