use borrow.Author.Tests.{eq-eqb, ne_eqb}
use mathlib.Core.Path.{ap₂, sym, ◌∙◌}
use Rattle.rows.specs.Reply.{with_one}
use Rattle.rows.proofs.reply.with_change.Goals as goal

pub returns-then-before-after : goal.returns-then-before-after
returns-then-before-after c = simp (eq-eqb _ _ c.if-before-after.true)

pub returns : goal.returns
returns c =
    let first = c.before.before in
    c.with-2.ensures ∙ ap₂ with_one first.with.ensures c.before.wide.ensures ∙ sym (simp (ne_eqb _ _ first.before.if-before-after.false))
