-- The string is written over the part of the buffer that starts at its place.
use Prim.Native.Nat.{◌+◌}
use lib.ListN.{length}
use mathlib.Core.Path.{refl}
use Rattle.fields.proofs.Stores.{stored_over}
use Rattle.fields.proofs.put_string.Goals as goal

pub returns : goal.returns
returns c =
    let a = c.args in
    rw c.copy.ensures (stored_over a.b.now a.s.now a.at (a.at + length a.s.now) refl c.requires)
