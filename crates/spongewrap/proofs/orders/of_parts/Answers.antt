-- The session's rows stop it; what the rows of a pair come to is found by the rows that the function names.
use mathlib.Core.Path.{sym}
use Rattle.std.proofs.lemmas.Result.{err_from_is_err_and}
use Rattle.refusal.proofs.Rows.{kept}
use Rattle.refusal.proofs.Numbers.{numbered_refusal}
use Rattle.spongewrap.proofs.orders.of_parts.Goals as goal

pub returns-in_err-own : goal.returns-in_err-own
returns-in_err-own c =
    let p = err_from_is_err_and c.from_residual.result c.from_residual.ensures.1 in
    rw (p.1, p.2, c.in_err-own.was) (sym (kept _ _ _ (numbered_refusal _)))
