-- The plain queue (02, C-19): the list of the kinds that wait, the oldest first.
use Rattle.std.specs.Prelude.{ℕ, Bool, true, false, cond, not, ◌&&◌, ◌||◌, List, [], ◌∷◌, ◌++◌, eqb}
use Rattle.pending.specs.declared.Kind.{Kind}
use Rattle.pending.specs.declared.Kind.TheVariants.{Abort, Fiq, Irq}

-- a number for each kind, and whether two kinds are one
abbrev pub code_of : Kind → ℕ
code_of Abort = 0
code_of Fiq = 1
code_of Irq = 2

abbrev pub same : Kind → Kind → Bool
same j k = eqb (code_of j) (code_of k)

-- whether a kind waits
abbrev pub waits : Kind → List Kind → Bool
waits k [] = false
waits k (j ∷ l) = same k j || waits k l

-- no kind waits twice
abbrev pub distinct_kinds : List Kind → Bool
distinct_kinds [] = true
distinct_kinds (k ∷ l) = not (waits k l) && distinct_kinds l

-- RAISE: a kind that waits keeps its place, and every other goes to the end
unfoldable pub raised : Kind → List Kind → List Kind
raised k l = cond (waits k l) l (l ++ (k ∷ []))

-- what a delivery step finds: nothing, or a kind to deliver with those that are left
pub data Chosen : Type 0 where
  none : Chosen
  oldest : Kind → List Kind → Chosen

-- a kind that stays waits before the others that are left
abbrev pub behind : Kind → Chosen → Chosen
behind k none = none
behind k (oldest j left) = oldest j (k ∷ left)

-- CHOOSE the oldest whose mask bit is 0: the first, or else the oldest such of those behind it
abbrev pub chosen : (Kind → Bool) → List Kind → Chosen
chosen mask [] = none
chosen mask (k ∷ l) = cond (mask k) (behind k (chosen mask l)) (oldest k l)
