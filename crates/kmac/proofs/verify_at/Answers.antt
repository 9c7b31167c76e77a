-- A refusal is a no. Else the lengths fit, and the code is compared to the one that is due.
use borrow.Author.Rules.{rules}
use mathlib.Core.Path.{refl}
use Rattle.std.proofs.lemmas.Result.{err_from_is_err_and}
use Rattle.refusal.proofs.Numbers.{numbered_refusal}
use Rattle.kmac.specs.Answers.{verifies}
use Rattle.kmac.proofs.Settle.{kmac_fits, not_judged, judged_by}
use Rattle.kmac.proofs.verify_at.Goals as goal

pub returns-in_err-of_kmac : goal.returns-in_err-of_kmac
unfolding verifies
returns-in_err-of_kmac g c =
    let p = err_from_is_err_and c.from_residual.result c.from_residual.ensures.1 in
    rw (p.1, p.2) (not_judged _ _ _ c.in_err-of_kmac.ensures (numbered_refusal _))

pub is_code-requires : goal.is_code-requires
is_code-requires g c =
    let p = kmac_fits _ _ _ _ c.in_ok-of_kmac.ensures refl in
    (search rules, p.0, p.1, p.2)

pub returns : goal.returns
unfolding verifies
returns g c = judged_by _ _ _ _ c.in_ok-of_kmac.ensures refl c.is_code.ensures
