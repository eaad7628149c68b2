use Rattle.text.proofs.Appending.{extends_both}
use Rattle.field_text.proofs.field.field_line.Goals as goal

pub returns : goal.returns
returns c =
    let value = c.field-value.ensures in
    extends_both (extends_both (extends_both (extends_both
    (extends_both (extends_both c.label.ensures c.append.ensures) c.bits_text.ensures) c.append-2.ensures)
    (rw value at c.append_hex.ensures)) (rw value at c.meaning.ensures)) c.append-3.ensures
