-- Row by row, each by the contract of `chi_row`.
use borrow.Author.Rules.{rules}
use Rattle.keccak.proofs.Rows.{chi_rows}
use Rattle.keccak.proofs.chi.Goals as goal

pub returns : goal.returns
returns c =
    rw (c.chi_row-5.ensures, c.chi_row-4.ensures, c.chi_row-3.ensures, c.chi_row-2.ensures, c.chi_row.ensures)
    (chi_rows 64 c.args.a (search rules))
