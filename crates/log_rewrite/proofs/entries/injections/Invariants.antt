-- `log_rewrite::entries::injections` meets its contract. The invariant: each number that was put is the reader's.
-- Assumes nothing.
use Rattle.std.proofs.Common.{◌≡◌, ◌<◌, ℕ, get_or}
use Rattle.log_reader.specs.Reader.{look_in}
use Rattle.log_rewrite.specs.Inner.{half_in}
use Rattle.log_rewrite.proofs.entries.injections.Given as goal

abbrev pub invariant-loop-i : goal.invariant-loop-i
invariant-loop-i l = (k : ℕ) → k < l.i → get_or l.out k 0 ≡ half_in (look_in l.log 3 k).entry
