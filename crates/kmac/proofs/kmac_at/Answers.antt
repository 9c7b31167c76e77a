-- A refusal gives all back. Else the lengths fit, and the output's is encoded.
use borrow.Author.Rules.{rules}
use mathlib.Core.Path.{refl}
use native.Mathlib.Omega.{arith}
use lib.ListN.{length}
use Rattle.kmac.specs.Functions.{kmac}
use Rattle.std.proofs.lemmas.Result.{err_from_is_err_and}
use Rattle.refusal.proofs.Numbers.{numbered_refusal}
use Rattle.kmac.specs.Answers.{kmacs}
use Rattle.kmac.proofs.Settle.{kmac_fits, refused, taken}
use Rattle.kmac.proofs.kmac_at.Goals as goal

pub returns-in_err-of_kmac : goal.returns-in_err-of_kmac
unfolding kmacs
returns-in_err-of_kmac g c =
    let p = err_from_is_err_and c.from_residual.result c.from_residual.ensures.1 in
    rw (p.1, p.2) (refused _ _ _ _ c.in_err-of_kmac.ensures (numbered_refusal _))

pub overflow_mul-bits : goal.overflow_mul-bits
overflow_mul-bits g c =
    let a = c.args in
    let p = kmac_fits (length a.key.now) (length a.out.now) (length a.customisation.now) _ c.in_ok-of_kmac.ensures refl in
    record { fits = omega (arith, p.2) }

pub keyed_into-requires : goal.keyed_into-requires
keyed_into-requires g c =
    let a = c.args in
    let p = kmac_fits _ (length a.out.now) _ _ c.in_ok-of_kmac.ensures refl in
    (search rules, p.0, p.1)

pub returns : goal.returns
unfolding kmacs kmac
returns g c =
    taken _ _ _ _ _ c.in_ok-of_kmac.ensures refl c.keyed_into.ensures
