-- `trap_log::sections::domains_fit` meets its contract. The invariant: the domains fit where those that are left do.
-- Assumes nothing.
use mathlib.Core.Path.{◌≡◌}
use lib.ListN.{drop}
use Rattle.log_section.specs.Section.{injection_size}
use Rattle.log_section.specs.Log.{injection_in, domains_fit, entries_in}
use Rattle.trap_log.proofs.sections.domains_fit.Given as goal

abbrev pub invariant-loop-i : goal.invariant-loop-i
invariant-loop-i l =
    domains_fit (drop l.i (entries_in injection_size injection_in l.count (drop 4 l.rest)))
    ≡ domains_fit (entries_in injection_size injection_in l.count (drop 4 l.rest))
