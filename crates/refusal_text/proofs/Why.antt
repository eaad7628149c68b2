-- The list of reasons is where code has it; and that it says something of a rule.
-- Assumes nothing.
use mathlib.Core.Path.{◌≡◌, refl}
use mathlib.Core.Bool.{Bool, true, false}
use mathlib.Core.List.{List, [], ◌∷◌}
use Prim.Native.Nat.{ℕ}
use Rattle.names.specs.Name.{meaning_of}
use Rattle.names.specs.Table.{sources, values_at}
use Rattle.names.specs.Value.{reasons}

pub reasons_at : values_at 31 ≡ reasons
unfolding values_at sources
reasons_at = refl

-- a text that isn't empty
abbrev pub some : List ℕ → Bool
some [] = false
some (byte ∷ text) = true

-- a rule has a text
abbrev pub told : ℕ → Bool
told rule = some (meaning_of reasons rule)
