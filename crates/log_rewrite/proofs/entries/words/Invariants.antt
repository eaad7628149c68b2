-- `log_rewrite::entries::words` meets its contract. The invariant: each number that was put is the reader's.
-- Assumes nothing.
use Rattle.std.proofs.Common.{◌≡◌, ◌<◌, ℕ, get_or}
use Rattle.log_reader.specs.Reader.{look_in}
use Rattle.log_rewrite.specs.Inner.{entry_word}
use Rattle.log_rewrite.proofs.entries.words.Given as goal

abbrev pub invariant-loop-i : goal.invariant-loop-i
invariant-loop-i l = (k : ℕ) → k < l.i → get_or l.out k 0 ≡ entry_word (look_in l.log l.passed k).entry l.second
