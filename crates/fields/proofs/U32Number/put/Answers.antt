-- Std's bytes of the number are ours.
use Rattle.fields.proofs.Numbers.{put_is}
use Rattle.fields.proofs.U32Number.put.Goals as goal

pub returns : goal.returns
returns c = put_is 4 _ _ _ _ _ c.to_be_bytes.ensures c.put_string.ensures
