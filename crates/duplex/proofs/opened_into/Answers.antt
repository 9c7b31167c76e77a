-- A piece more, and at the end what is left, is opened and laid where it was in the ciphertext.
use mathlib.Core.Path.{◌≡◌}
use Prim.Native.Nat.{◌+◌, ◌-◌, ◌<◌}
use native.Mathlib.Omega.{arith}
use lib.ListN.{length, drop, length-drop}
use lib.Seq.{drop-drop}
use Rattle.std.proofs.lemmas.List.{take_rest}
use Rattle.keccak.specs.Rounds.{f1600}
use Rattle.duplex.proofs.First.{plain_after, plain_only, opened_after, opened_only}
use Rattle.duplex.proofs.Laid.{laid_more, laid_last}
use Rattle.duplex.proofs.opened_into.Goals as goal

pub loop-at-preserved : goal.loop-at-preserved
loop-at-preserved c =
    let left = drop c.loop-at.at c.args.cipher.now in
    let long : c.args.rate.bytes - 1 < length (drop c.loop-at.at c.args.cipher.now) = omega (arith, length-drop c.loop-at.at c.args.cipher.now) in
    let as_many : c.loop-at.at + (c.args.rate.bytes - 1) - c.loop-at.at ≡ c.args.rate.bytes - 1 = omega arith in
    let rest = drop-drop (c.args.rate.bytes - 1) c.loop-at.at c.args.cipher.now in (
      cc (plain_after 64 f1600 c.args.rate.bytes c.loop-at.st c.args.rate.fits.room left long),
      laid_more _ _ _ _ _ c.loop-at.invariant.1 _ _ _ (cc (opened_after 64 f1600 c.args.rate.bytes c.loop-at.st c.args.rate.fits.room left long)) (grind arith) (grind arith),
    )

pub returns : goal.returns
returns c =
    (grind (arith, plain_only, take_rest), laid_last _ _ _ _ _ c.loop-at.invariant.1 _ (grind (arith, opened_only, take_rest)))
