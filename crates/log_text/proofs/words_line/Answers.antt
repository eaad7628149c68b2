-- `log_text::words_line` meets its contract: one text after another.
-- Assumes nothing.
use Rattle.text.proofs.Appending.{extends_both}
use Rattle.log_text.proofs.words_line.Goals as goal

pub returns : goal.returns
returns c =
    extends_both (extends_both (extends_both (extends_both
    c.append.ensures c.hex_field.ensures)
    c.hex_field-2.ensures)
    c.hex_field-3.ensures) c.append-2.ensures
