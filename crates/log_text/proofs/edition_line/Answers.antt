-- `log_text::edition_line` meets its contract: one text after another.
-- Assumes nothing.
use Rattle.text.proofs.Appending.{extends_both}
use Rattle.log_text.proofs.edition_line.Goals as goal

pub returns : goal.returns
returns c =
    let last = c in
    let number = last in
    let word = number in
    extends_both (extends_both word.append.ensures number.edition_field.ensures) last.append-2.ensures
