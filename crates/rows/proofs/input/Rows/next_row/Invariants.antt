use Rattle.std.proofs.Common.{◌≤◌}
use Rattle.rows.proofs.input.Rows.next_row.Given as goal

-- a line holds no more numbers than it has places
abbrev pub invariant-loop : goal.invariant-loop
invariant-loop g l = l.line.count ≤ 256
