-- `log_text::cut_lines::before` meets its contract: the text of the cut that was found.
-- Assumes nothing.
use mathlib.Core.Path.{ap}
use Rattle.text.proofs.Appending.{extends_both}
use Rattle.log_text.specs.Cut.{before_text}
use Rattle.log_text.proofs.cut_lines.preceding.Goals as goal

pub returns-in-Count : goal.returns-in-Count
returns-in-Count c =
    let last = c in
    let first = last in
    rw (ap before_text first.in-Count.is) (extends_both first.decimal_field.ensures last.append.ensures)

pub returns-in-Entries : goal.returns-in-Entries
returns-in-Entries c =
    rw (ap before_text c.in-Entries.is)
    (extends_both
    (extends_both
    (extends_both
    (extends_both (extends_both c.decimal_field-in-Entries.ensures c.append-in-Entries.ensures) c.decimal_field-in-Entries-2.ensures)
    c.append-in-Entries-2.ensures)
    c.decimal_field-in-Entries-3.ensures)
    c.append-in-Entries-3.ensures)
