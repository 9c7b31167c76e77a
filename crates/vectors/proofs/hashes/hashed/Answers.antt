-- Each function fills the front of the zeros.
use mathlib.Core.Path.{ap, ◌∙◌}
use native.Mathlib.Omega.{arith}
use lib.ListN.{length-take}
use Rattle.sponge.specs.Hashes.{shake128, shake256}
use Rattle.vectors.specs.Chains.{widened, hashed}
use Rattle.vectors.proofs.Links.{front}
use Rattle.vectors.proofs.hashes.hashed.Goals as goal

pub returns-in-Sha3_256 : goal.returns-in-Sha3_256
unfolding hashed
returns-in-Sha3_256 c = rw c.in-Sha3_256.is (ap (widened 32) (c.copy_from_slice.ensures.after ∙ c.sha3_256.ensures))

pub returns-in-Shake128 : goal.returns-in-Shake128
unfolding hashed
returns-in-Shake128 c =
    let a = c.args in
    rw c.in-Shake128.is
    (front (shake128 a.message.now) _ a.n _ c.shake128.ensures (simp length-take (omega arith)))

pub returns-in-Shake256 : goal.returns-in-Shake256
unfolding hashed
returns-in-Shake256 c =
    let a = c.args in
    rw c.in-Shake256.is
    (front (shake256 a.message.now) _ a.n _ c.shake256.ensures (simp length-take (omega arith)))
