-- What was unread stands at the front, and what was read behind it.
use Rattle.std.proofs.Common.{arith}
use Rattle.vectors.proofs.FirstLine.{part_refilled}
use Rattle.vectors.proofs.lines.Lines.refill.Goals as goal

pub returns : goal.returns
returns g c =
    let s = c.args.self.now in
    (_, c.read_full.ensures.bytes, part_refilled s.buffer.now _ _ s.start s.end _ (omega arith) (omega arith) c.copy_within.ensures.after c.copy_within.ensures.len c.read_full.ensures.within)
