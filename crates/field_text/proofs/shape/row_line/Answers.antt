use Rattle.field_text.specs.Rows.{row_labels, row_highs, row_lows, row_in}
use Rattle.field_text.proofs.shape.row_line.Goals as goal

pub returns : goal.returns
unfolding row_in row_labels row_highs row_lows
returns c = rw (c.from-high.ensures, c.from-low.ensures, c.from-label.ensures, c.list_in-list.ensures) at c.field_line.ensures
