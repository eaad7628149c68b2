-- `log_writer::lists::domains_fit` meets its contract. The invariant: the domains fit where those that are left do.
-- Assumes nothing.
use mathlib.Core.Path.{◌≡◌}
use Prim.Native.Nat.{◌≤◌}
use lib.ListN.{length, drop}
use Rattle.log_section.specs.Log.{domains_fit}
use Rattle.log_writer.proofs.lists.domains_fit.Given as goal

abbrev pub invariant-loop-n : goal.invariant-loop-n
invariant-loop-n l = (l.n-index ≤ length l.injections) × (domains_fit (drop l.n-index l.injections) ≡ domains_fit l.injections)
