-- As many bytes as a state gives, and at the end what is left, are drawn and laid where the loop stands.
use Rattle.std.proofs.Common.{◌-◌, length, arith, rules}
use Rattle.keccak.specs.Rounds.{f1600}
use Rattle.duplex.proofs.First.{state_after_more, state_after_none, drawn_more, drawn_only}
use Rattle.duplex.proofs.Laid.{laid_none_whole, laid_more, laid_last}
use Rattle.duplex.proofs.drawn_into.Goals as goal

pub loop-out-init : goal.loop-out-init
loop-out-init c = search (rules, laid_none_whole)

pub loop-out-preserved : goal.loop-out-preserved
loop-out-preserved c = (
  grind (arith, state_after_more 64 f1600 c.args.rate.bytes c.loop-out.st c.args.rate.fits (length c.args.out.now - c.loop-out.at)),
  laid_more _ _ _ _ _ c.loop-out.invariant.1 _ _ _ (grind (arith, drawn_more)) (grind arith) (omega arith),
)

pub returns : goal.returns
returns c =
    (grind (arith, state_after_none), rw c.loop-out.auto.out (laid_last _ _ _ _ _ c.loop-out.invariant.1 _ (grind (arith, drawn_only))))
