-- Every pair of digits gives a byte more.
use Rattle.std.proofs.Common.{sym, ◌∙◌, inl, inr, arith}
use borrow.Author.Tests.{eqb-true, eqb-false}
use Rattle.vectors.proofs.Decoded.{length_bytes, decoded_more, decoded_stop, decoded_all}
use Rattle.vectors.proofs.named.decode.Goals as goal

pub returns-then-not-is_empty-clause-none : goal.returns-then-not-is_empty-clause-none
returns-then-not-is_empty-clause-none c = λ e w.
    elim c.then-not-is_empty.either [
      | inl p ↦ absurd (eqb-false _ 0 (sym c.is_empty.ensures ∙ p) (c.as_chunks.ensures.back_len ∙ w.0))
      | inr p ↦ omega (arith, length_bytes c.args.digits.now)
    ]

pub returns-in_err-out-clause-none : goal.returns-in_err-out-clause-none
returns-in_err-out-clause-none c = λ e w.
    absurd (decoded_stop c.args.digits.now _ c.loop-i.i c.as_chunks.ensures.front c.as_chunks.ensures.front_len c.loop-i-test.true c.in_err-out.ensures w)

pub loop-i-preserved : goal.loop-i-preserved
loop-i-preserved c =
    let all = c.loop-i.invariant in
    let more = decoded_more c.args.digits.now c.args.out.now _ _ c.loop-i.i _ c.as_chunks.ensures.front c.as_chunks.ensures.front_len c.loop-i-test.true (omega arith) all.put all.spelled c.in_ok-out.ensures.0 c.in_ok-out.ensures.1 in
    record { put = more.0; spelled = more.1 }

pub returns-clause-whole : goal.returns-clause-whole
returns-clause-whole c =
    let all = c.loop-i.invariant in
    let d = c.args.digits.now in (
      (sym c.as_chunks.ensures.back_len ∙ eqb-true _ 0 (sym c.is_empty.ensures ∙ c.if-not-is_empty.false), λ k h. all.spelled k (omega (arith, length_bytes d))),
      omega (arith, length_bytes d),
      decoded_all d _ _ c.loop-i.i _ all.put c.as_chunks.ensures.front_len (omega arith),
    )
