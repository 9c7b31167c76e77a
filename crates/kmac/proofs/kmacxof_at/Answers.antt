-- A refusal gives all back. Else the lengths fit, and 0 is encoded.
use borrow.Author.Rules.{rules}
use mathlib.Core.Path.{refl}
use Rattle.kmac.specs.Functions.{kmacxof}
use Rattle.std.proofs.lemmas.Result.{err_from_is_err_and}
use Rattle.refusal.proofs.Numbers.{numbered_refusal}
use Rattle.kmac.specs.Answers.{kmacxofs}
use Rattle.kmac.proofs.Settle.{kmacxof_fits, refused, taken}
use Rattle.kmac.proofs.kmacxof_at.Goals as goal

pub returns-in_err-of_kmacxof : goal.returns-in_err-of_kmacxof
unfolding kmacxofs
returns-in_err-of_kmacxof g c =
    let p = err_from_is_err_and c.from_residual.result c.from_residual.ensures.1 in
    rw (p.1, p.2) (refused _ _ _ _ c.in_err-of_kmacxof.ensures (numbered_refusal _))

pub keyed_into-requires : goal.keyed_into-requires
keyed_into-requires g c =
    let p = kmacxof_fits _ _ _ c.in_ok-of_kmacxof.ensures refl in
    (search rules, p.0, p.1)

pub returns : goal.returns
unfolding kmacxofs kmacxof
returns g c =
    taken _ _ _ _ _ c.in_ok-of_kmacxof.ensures refl c.keyed_into.ensures
