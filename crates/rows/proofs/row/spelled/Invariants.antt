use mathlib.Core.Path.{◌≡◌}
use Rattle.rows.specs.Row.{spelled_below}
use Rattle.rows.proofs.row.spelled.Given as goal

abbrev pub invariant-loop-letter : goal.invariant-loop-letter
invariant-loop-letter l = l.word ≡ spelled_below l.letters l.letter-index
