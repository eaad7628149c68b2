-- `log_text::injection_line` meets its contract: one text after another.
-- Assumes nothing.
use Rattle.text.proofs.Appending.{extends_both}
use Rattle.log_text.proofs.Room.{injections_at}
use Rattle.log_text.proofs.injection_line.Goals as goal

pub returns : goal.returns
returns c =
    let last = c in
    let name = last in
    let fourth = name in
    let third = fourth in
    let second = third in
    let first = second in
    extends_both
    (extends_both
    (extends_both (extends_both (extends_both first.append.ensures second.decimal_field.ensures) third.append-2.ensures)
    fourth.decimal_field-2.ensures)
    (rw injections_at at name.meaning.ensures))
    last.append-3.ensures
