-- The place of the newline gives both sizes.
use mathlib.Core.Path.{sym, ◌∙◌}
use Rattle.vectors.proofs.FirstLine.{first_some}
use Rattle.vectors.proofs.lines.first.Goals as goal

pub returns : goal.returns
returns c = first_some _ _ _ (sym c.in_ok-at.was ∙ c.newline.ensures) c.without_return-line.ensures
