-- `trap_text::line_in` meets its contract: the line of an edition that is in the mask, and nothing for another.
-- Assumes nothing.
use mathlib.Core.Path.{sym, ◌∙◌}
use Rattle.text.proofs.Appending.{extends_none}
use Rattle.trap_text.proofs.line_in.Goals as goal

pub returns-then-bit : goal.returns-then-bit
returns-then-bit c =
    let tested = c in
    rw (sym tested.bit.ensures ∙ tested.if-bit.true) c.told_lines.ensures

pub returns-else-bit : goal.returns-else-bit
returns-else-bit c = rw (sym c.bit.ensures ∙ c.if-bit.false) (extends_none _)
