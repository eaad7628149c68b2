-- `pending_words::queue_of` meets its contract. The invariant: what is left to raise, raised, is what waits in the number.
-- Assumes nothing.
use mathlib.Core.Path.{◌≡◌}
use Prim.Native.Nat.{◌-◌}
use Rattle.pending.specs.Reading.{list_of}
use Rattle.pending_words.specs.Number.{waiting_from, waiting_in}
use Rattle.pending_words.proofs.queue_of.Given as goal

abbrev pub invariant-loop-pair : goal.invariant-loop-pair
invariant-loop-pair l = waiting_from (16 - l._pair) l.left (list_of l.queue) ≡ waiting_in l.number
