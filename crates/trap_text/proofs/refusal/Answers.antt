-- `trap_text::refusal` meets its contract: one text after another.
-- Assumes nothing.
use Rattle.text.proofs.Appending.{extends_both}
use Rattle.trap_text.proofs.refusal.Goals as goal

pub returns : goal.returns
returns c =
    extends_both (extends_both (extends_both c.append.ensures
    (rw c.number.ensures at
    c.decimal_field.ensures))
    (rw c.mask.ensures at
    c.decimal_field-2.ensures))
    (rw c.count.ensures at c.decimal_field-3.ensures)
