-- `log_text::refused` meets its contract: one text after another.
-- Assumes nothing.
use Rattle.text.proofs.Appending.{extends_both}
use Rattle.log_text.proofs.refused.Goals as goal

pub returns : goal.returns
returns c =
    extends_both (extends_both (extends_both c.append.ensures
    (rw c.number.ensures at
    c.decimal_field.ensures))
    (rw c.section_in.ensures at
    c.decimal_field-2.ensures)) c.append-2.ensures
