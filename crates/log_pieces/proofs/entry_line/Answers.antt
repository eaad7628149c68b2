-- `log_pieces::entry_line` meets its contract: the line of the entry.
-- Assumes nothing.
use mathlib.Core.Path.{ap}
use Rattle.log_text.specs.Lines.{entry_text}
use Rattle.log_pieces.proofs.Placed.{same_text}
use Rattle.log_pieces.proofs.entry_line.Goals as goal

pub returns : goal.returns
returns c = same_text (ap entry_text c.entry.ensures) c.entry_line.ensures
