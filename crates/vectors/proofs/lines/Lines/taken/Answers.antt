-- The first line is taken out of what is unread.
use Rattle.vectors.proofs.FirstLine.{part_taken}
use Rattle.vectors.proofs.lines.Lines.taken.Goals as goal

pub returns-clause-taken : goal.returns-clause-taken
returns-clause-taken g c =
    let s = c.sized.new.self in
    let reads = c.sized.ensures.reads in
    let size = c.in_ok-size.ensures.sized in
    (reads.0, reads.1, rw (← reads.2) (part_taken s.buffer.now s.start s.end _ _ size.0 size.1 size.2))
