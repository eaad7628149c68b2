-- `log_pieces::entries::entry` meets its contract: the entry that stands whole.
-- Assumes nothing.
use mathlib.Core.Path.{◌∙◌}
use Rattle.log_pieces.proofs.Shown.{entry_shown}
use Rattle.log_pieces.proofs.entries.entry.Goals as goal

pub returns : goal.returns
returns c =
    let start = c in
    c.entry.ensures
    ∙ entry_shown start.args.log.now start.args.passed start.args.i start.requires.0 start.requires.1
