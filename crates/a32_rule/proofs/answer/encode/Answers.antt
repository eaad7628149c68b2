-- `a32_rule::answer::encode` meets its contract: legal fields are put together into their word, which has 32 bits.
-- Assumes nothing.
use mathlib.Core.Path.{◌∙◌, sym}
use Rattle.a32_rule.proofs.Answers.{joined_below, written, unwritten}
use Rattle.a32_rule.proofs.answer.encode.Goals as goal

pub overflow_cast-result : goal.overflow_cast-result
overflow_cast-result c = record { fits = joined_below c.args.f (sym c.legal.ensures ∙ c.if-legal.true) c.joined.ensures }

pub returns-then-legal : goal.returns-then-legal
returns-then-legal c =
    let f = c.args.f in
    written f (sym c.legal.ensures ∙ c.if-legal.true) c.joined.ensures

pub returns-else-legal : goal.returns-else-legal
returns-else-legal c = unwritten c.args.f (sym c.legal.ensures ∙ c.if-legal.false)
