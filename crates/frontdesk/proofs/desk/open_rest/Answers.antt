-- The label is the one that is expected, or another.
use mathlib.Core.Path.{refl, sym, ◌∙◌}
use Rattle.refusal.proofs.Rows.{taken, passed}
use Rattle.frontdesk.proofs.desk.open_rest.Goals as goal

pub returns-then-is_same : goal.returns-then-is_same
returns-then-is_same g c = rw (← c.header_at.ensures) (c.open_from.ensures ∙ taken _ _ (sym c.if-is_same.ensures))

pub returns : goal.returns
returns g c = rw (← c.header_at.ensures) (passed _ (sym c.if-is_same.ensures) refl)
