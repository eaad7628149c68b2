-- A queue comes back from its number.
-- Assumes nothing.
use mathlib.Core.Path.{◌≡◌, refl}
use mathlib.Core.Bool.{true, false}
use Rattle.pending.specs.declared.Kind.TheVariants.{Abort, Fiq, Irq}
use Rattle.pending.specs.declared.Queue.{Queue}
use Rattle.pending.specs.declared.Queue.TheVariants.{Empty, One, Two, Three}
use Rattle.pending.specs.Plain.{raised}
use Rattle.pending.specs.Reading.{list_of}
use Rattle.pending_words.specs.Number.{queue_number, raised_by, waiting_from, waiting_in}

-- of each of the sixteen queues that there are
pub waiting_back : (q : Queue) → waiting_in (queue_number (list_of q)) ≡ list_of q
unfolding waiting_from raised_by raised
waiting_back Empty = refl
waiting_back (One Abort) = refl
waiting_back (One Fiq) = refl
waiting_back (One Irq) = refl
waiting_back (Two Abort true) = refl
waiting_back (Two Abort false) = refl
waiting_back (Two Fiq true) = refl
waiting_back (Two Fiq false) = refl
waiting_back (Two Irq true) = refl
waiting_back (Two Irq false) = refl
waiting_back (Three Abort true) = refl
waiting_back (Three Abort false) = refl
waiting_back (Three Fiq true) = refl
waiting_back (Three Fiq false) = refl
waiting_back (Three Irq true) = refl
waiting_back (Three Irq false) = refl
