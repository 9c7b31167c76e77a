-- The part of 8 bytes is an array, and std's number of it is ours.
use Rattle.fields.proofs.Numbers.{read_is}
use Rattle.fields.proofs.U64Number.read.Goals as goal

pub returns : goal.returns
returns c =
    let part = rw c.unwrap.ensures at c.try_into.ensures in
    read_is 7 _ _ _ _ part.1.same c.from_be_bytes.ensures
