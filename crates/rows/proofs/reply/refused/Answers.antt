use mathlib.Core.Path.{refl, ap₂, ◌∙◌}
use Rattle.rows.specs.Reply.{with_one}
use Rattle.rows.proofs.reply.refused.Goals as goal

pub returns : goal.returns
returns c =
    let second = c.before.before in
    let first = second.before.before in
    c.with-3.ensures
    ∙ ap₂ with_one (second.with-2.ensures ∙ ap₂ with_one (first.with.ensures ∙ ap₂ with_one refl first.before.wide.ensures) second.before.wide-2.ensures)
    c.before.wide-3.ensures
