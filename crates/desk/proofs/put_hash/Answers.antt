-- Refused where the digest does not fit; else it is laid over the first 32 bytes.
use Prim.Native.Nat.{◌<◌, ◌≤◌}
use lib.ListN.{length}
use borrow.Author.Tests.{lt-ltb, le-ltb}
use borrow.Author.Rules.{rules}
use Rattle.refusal.specs.Rows.{pick, by}
use Rattle.desk.specs.Desk.{hashes}
use Rattle.desk.proofs.put_hash.Goals as goal

pub returns-in_err-first : goal.returns-in_err-first
unfolding hashes pick by
returns-in_err-first c =
    let h : length c.args.digest.now < 32 = rw c.in_err-first.ensures.ok_part at c.first_chunk_mut.ensures.cases in
    rw (lt-ltb _ _ h) (search rules)

pub returns : goal.returns
unfolding hashes pick by
returns c =
    let h : 32 ≤ length c.args.digest.now = (rw c.in_ok-first.ensures.ok_part at c.first_chunk_mut.ensures.cases).enough in
    rw (le-ltb _ _ h, c.sha3_256.ensures)
