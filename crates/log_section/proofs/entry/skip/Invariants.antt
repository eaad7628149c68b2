-- `log_section::entry::skip` meets its contract. The invariant: what is left of the moves, from the place reached, gives what all of them give.
-- Assumes nothing.
use Rattle.std.proofs.Common.{◌≡◌, ◌-◌}
use Rattle.log_section.specs.Look.{skip_from}
use Rattle.log_section.proofs.entry.skip.Given as goal

abbrev pub invariant-loop : goal.invariant-loop
invariant-loop l = skip_from l.log (l.n - l.counter) l.place ≡ skip_from l.log l.n record { passed = l.passed; at = l.at }
