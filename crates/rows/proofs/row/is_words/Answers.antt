use mathlib.Core.Path.{ap}
use mathlib.Core.Bool.{Bool, ◌&&◌}
use lib.Dec.{eqb}
use Rattle.rows.proofs.row.is_words.Goals as goal

pub returns : goal.returns
returns c =
    let args = c.before.before.args in
    ap (λ (b : Bool). eqb args.row.count args.n && b) c.are_words.ensures
