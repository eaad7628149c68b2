use Rattle.names.proofs.Dense.{label_entry}
use Rattle.names.proofs.label.Goals as goal

pub returns : goal.returns
returns c = rw label_entry at c.entry.ensures
