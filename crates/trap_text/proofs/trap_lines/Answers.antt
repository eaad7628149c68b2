-- `trap_text::trap_lines` meets its contract: one text after another.
-- Assumes nothing.
use Rattle.text.proofs.Appending.{extends_both}
use Rattle.trap_text.proofs.trap_lines.Goals as goal

pub returns : goal.returns
returns c = extends_both c.words_line.ensures c.lines_in.ensures
