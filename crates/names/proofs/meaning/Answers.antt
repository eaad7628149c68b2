use Rattle.names.proofs.Dense.{value_entry}
use Rattle.names.proofs.meaning.Goals as goal

pub returns : goal.returns
returns c = rw value_entry at c.entry.ensures
