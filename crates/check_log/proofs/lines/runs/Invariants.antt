-- `check_log::lines::runs` is safe.
-- Assumes nothing.
use Rattle.std.proofs.Common.{◌≤◌}
use Rattle.check_log.proofs.lines.runs.Given as goal

abbrev pub invariant-loop-i : goal.invariant-loop-i
invariant-loop-i g l = l.start ≤ l.i
