use mathlib.Core.Path.{ap₂, refl}
use lib.Dec.{eqb}
use Rattle.rows.proofs.row.is.Goals as goal

pub returns : goal.returns
returns c = ap₂ eqb refl c.before.spelled.ensures
