-- `log_pieces::first_lines` meets its contract: a log that is cut short is announced.
-- Assumes nothing.
use mathlib.Core.Path.{sym, ◌∙◌}
use Rattle.text.proofs.Appending.{extends_both, extends_none}
use Rattle.log_pieces.proofs.first_lines.Goals as goal

pub returns-then-is_cut : goal.returns-then-is_cut
returns-then-is_cut c = rw (sym c.is_cut.ensures ∙ c.if-is_cut.true) (extends_both c.read_line.ensures c.append.ensures)

pub returns-else-is_cut : goal.returns-else-is_cut
returns-else-is_cut c = rw (sym c.is_cut.ensures ∙ c.if-is_cut.false) (extends_both c.read_line.ensures (extends_none _))
