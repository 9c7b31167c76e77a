-- The number's last bytes stand at the end of its eight.
use borrow.Author.Rules.{rules}
use Rattle.kmac.proofs.Encoding.{last_bytes}
use Rattle.kmac.proofs.encodings.absorbed_number.Goals as goal

pub returns : goal.returns
returns g c =
    rw (last_bytes c.args.x c.args.n _ (search rules) c.to_be_bytes.ensures) at c.absorbed.ensures
