-- `log_pieces::entries::seen` meets its contract. The invariant: the edition is among all where it is among those that are left.
-- Assumes nothing.
use mathlib.Core.Path.{◌≡◌}
use lib.ListN.{drop}
use Rattle.bits.specs.Among.{among}
use Rattle.log_pieces.specs.Text.{shown}
use Rattle.log_pieces.proofs.entries.seen.Given as goal

abbrev pub invariant-loop-i : goal.invariant-loop-i
invariant-loop-i l = among (drop l.i (shown l.log).editions) l.edition ≡ among (shown l.log).editions l.edition
