use mathlib.Core.Path.{refl, ap₂, ◌∙◌}
use Rattle.rows.specs.Reply.{with_one}
use Rattle.rows.proofs.reply.one.Goals as goal

pub returns : goal.returns
returns c = c.with.ensures ∙ ap₂ with_one c.before.no_row.ensures refl
