-- A queue as a number (02, C-19, for callers without lists): two bits for each kind that waits, the oldest in the lowest, and zeros above
-- the youngest.
use Rattle.std.specs.Prelude.{ℕ, zero, suc, ◌+◌, ◌*◌, ◌/◌, ◌%◌, cond, List, [], ◌∷◌, eqb, Option, Some, None}
use Rattle.pending.specs.declared.Kind.{Kind}
use Rattle.pending.specs.declared.Kind.TheVariants.{Abort, Fiq, Irq}
use Rattle.pending.specs.Plain.{raised}

abbrev pub kind_number : Kind → ℕ
kind_number Abort = 1
kind_number Fiq = 2
kind_number Irq = 3

-- a number's kind, where it has one
unfoldable pub kind_of : ℕ → Option Kind
kind_of n = cond (eqb n 1) (Some Abort) (cond (eqb n 2) (Some Fiq) (cond (eqb n 3) (Some Irq) None))

abbrev pub queue_number : List Kind → ℕ
queue_number [] = 0
queue_number (k ∷ l) = kind_number k + 4 * queue_number l

-- a kind's number raises it, and every other number raises nothing
unfoldable pub raised_by : ℕ → List Kind → List Kind
raised_by n l = cond (eqb n 1) (raised Abort l) (cond (eqb n 2) (raised Fiq l) (cond (eqb n 3) (raised Irq l) l))

-- so many pairs of bits raised in turn, the lowest first
unfoldable pub waiting_from : ℕ → ℕ → List Kind → List Kind
waiting_from zero n l = l
waiting_from (suc pairs) n l = waiting_from pairs (n / 4) (raised_by (n % 4) l)

-- EVERY number of 32 bits is a queue's: that of its pairs raised (`waiting_back`, proofs/RoundTrip.antt: of a queue's own number the queue)
abbrev pub waiting_in : ℕ → List Kind
waiting_in n = waiting_from 16 n []
