-- `short::word_editions` meets its contract: where the word comes back from the record, the record's editions; `makes_mask` says that they
-- are the word's. Assumes nothing.
use mathlib.Core.Path.{◌∙◌, sym, ap}
use mathlib.Core.Bool.{Bool, cond}
use borrow.Author.Tests.{eq-eqb, ne_eqb}
use Rattle.short_rule.specs.Has.{editions_of}
use Rattle.short.proofs.Steps.{makes_mask}
use Rattle.short.proofs.word_editions.Goals as goal

pub returns-then-joined-word : goal.returns-then-joined-word
returns-then-joined-word c =
    let a = c.args in
    c.editions.ensures ∙ ap (λ (b : Bool). cond b (editions_of a.r) 0)
    (sym (eq-eqb _ _ (sym c.joined.ensures ∙ c.if-joined-word.true)))
    ∙ makes_mask a.r a.word

pub returns-else-joined-word : goal.returns-else-joined-word
returns-else-joined-word c =
    let a = c.args in
    ap (λ (b : Bool). cond b (editions_of a.r) 0) (sym (ne_eqb _ _ (λ e. c.if-joined-word.false (c.joined.ensures ∙ e))))
    ∙ makes_mask a.r a.word
