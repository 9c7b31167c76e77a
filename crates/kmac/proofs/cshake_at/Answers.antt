-- A refusal gives all back. Else it is SHAKE where name and customisation are empty, and the named function where they are not.
use borrow.Author.Rules.{rules}
use mathlib.Core.Path.{refl}
use native.Mathlib.Omega.{arith}
use Rattle.keccak.specs.Rounds.{f1600}
use Rattle.std.proofs.lemmas.Result.{err_from_is_err_and}
use Rattle.refusal.proofs.Numbers.{numbered_refusal}
use Rattle.kmac.specs.Answers.{cshakes}
use Rattle.kmac.proofs.Settle.{cshake_fits, refused, taken, plain_is, named_is}
use Rattle.kmac.proofs.cshake_at.Goals as goal

pub returns-in_err-of_cshake : goal.returns-in_err-of_cshake
unfolding cshakes
returns-in_err-of_cshake g c =
    let p = err_from_is_err_and c.from_residual.result c.from_residual.ensures.1 in
    rw (p.1, p.2) (refused _ _ _ _ c.in_err-of_cshake.ensures (numbered_refusal _))

pub returns-then-name-customisation-eq0 : goal.returns-then-name-customisation-eq0
unfolding cshakes
returns-then-name-customisation-eq0 g c =
    taken _ _ _ _ _ c.in_ok-of_cshake.ensures refl (plain_is 64 f1600 _ _ _ _ _ _ c.if-name-customisation-eq0.true c.hash_into.ensures)

pub names_padded-head-requires : goal.names_padded-head-requires
names_padded-head-requires g c =
    let p = cshake_fits _ _ _ c.in_ok-of_cshake.ensures refl in
    (search rules, (search rules, p.0, p.1))

pub returns : goal.returns
unfolding cshakes
returns g c =
    taken _ _ _ _ _ c.in_ok-of_cshake.ensures refl
    (named_is 64 f1600 _ (omega arith) (search rules) _ _ _ c.if-name-customisation-eq0.false c.names_padded-head.ensures.0 c.absorbed-whole.ensures c.squeeze_named.ensures)
