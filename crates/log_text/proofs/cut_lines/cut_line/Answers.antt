use Rattle.text.proofs.Appending.{extends_both}
use Rattle.log_text.proofs.cut_lines.cut_line.Goals as goal

pub returns : goal.returns
returns c =
    extends_both
    (extends_both (extends_both (extends_both c.append.ensures c.decimal_field.ensures) c.append-2.ensures) c.preceding.ensures)
    c.append-3.ensures
