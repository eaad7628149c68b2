-- `trap_text::shown_line` meets its contract: one text after another.
-- Assumes nothing.
use Rattle.text.proofs.Appending.{extends_both}
use Rattle.trap_text.proofs.shown_line.Goals as goal

pub returns : goal.returns
returns c =
    extends_both (extends_both (extends_both c.append.ensures
    c.edition_field.ensures)
    (rw c.read.ensures.answer at
    c.answer.ensures)) c.append-2.ensures
