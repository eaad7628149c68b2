-- A value of the code read as a plain queue: its list, the oldest first.
use Rattle.std.specs.Prelude.{Bool, true, false, not, List, [], ◌∷◌, Option, Some, None}
use Rattle.pending.specs.declared.Kind.{Kind}
use Rattle.pending.specs.declared.Kind.TheVariants.{Abort, Fiq, Irq}
use Rattle.pending.specs.declared.Queue.{Queue}
use Rattle.pending.specs.declared.Queue.TheVariants.{Empty, One, Two, Three}
use Rattle.pending.specs.declared.Masks.{Masks}
use Rattle.pending.specs.Plain.{Chosen, none, oldest}

-- the two neighbours of a kind in the round abort, FIQ, IRQ: the one after it, and the one before it
abbrev pub neighbour : Kind → Bool → Kind
neighbour Abort true = Fiq
neighbour Abort false = Irq
neighbour Fiq true = Irq
neighbour Fiq false = Abort
neighbour Irq true = Abort
neighbour Irq false = Fiq

abbrev pub list_of : Queue → List Kind
list_of Empty = []
list_of (One a) = a ∷ []
list_of (Two a after) = a ∷ neighbour a after ∷ []
list_of (Three a after) = a ∷ neighbour a after ∷ neighbour a (not after) ∷ []

-- a kind's mask bit
abbrev pub mask_in : Masks → Kind → Bool
mask_in m Abort = m.a
mask_in m Fiq = m.f
mask_in m Irq = m.i

abbrev pub choice_of : Option (Kind × Queue) → Chosen
choice_of None = none
choice_of (Some (k, left)) = oldest k (list_of left)
