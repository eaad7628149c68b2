use Rattle.names.specs.Table.{labels, sources, lists, texts}
use Rattle.names.proofs.table.cut.Goals as goal

pub returns : goal.returns
unfolding texts lists labels sources
returns c = c.append.ensures
