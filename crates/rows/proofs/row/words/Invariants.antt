use mathlib.Core.Path.{◌≡◌}
use lib.ListN.{length}
use Rattle.rows.proofs.Filling.{filled}
use Rattle.rows.proofs.row.words.Given as goal

abbrev pub invariant-loop-i : goal.invariant-loop-i
invariant-loop-i g l = (length l.words ≡ g.row.N) × (l.words ≡ filled l.row l.from g.row.N l.i)
