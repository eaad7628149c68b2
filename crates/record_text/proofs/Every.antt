-- Every class of a trap from AArch32 has a name, and every field of every kind that such a trap has.
-- Assumes nothing.
use mathlib.Core.Path.{◌≡◌, refl, sym}
use mathlib.Core.Bool.{Bool, true, false, true≢false}
use mathlib.Core.List.{List, [], ◌∷◌}
use Prim.Native.Nat.{ℕ}
use lib.ListN.{length}
use Rattle.bits.specs.Among.{among}
use Rattle.bits.proofs.Among.{among_all}
use Rattle.layout.specs.Fields.{fields_of}
use Rattle.names.specs.Name.{meaning_of}
use Rattle.names.specs.Class.{classes}
use Rattle.record.specs.Class.{aarch32_classes, head_of}
use Rattle.record.specs.declared.kinds.Record.{Record}
use Rattle.record_text.specs.Names.{names_of}

-- a text isn't empty
abbrev some : List ℕ → Bool
some [] = false
some (byte ∷ text) = true

pub class_named : (class : ℕ) → among aarch32_classes class ≡ true → some (meaning_of classes class) ≡ true
class_named = among_all aarch32_classes (λ c. some (meaning_of classes c)) tt

pub every_named : (r : Record) → among aarch32_classes (head_of r).class ≡ true → length (names_of r) ≡ length (fields_of r)
every_named (Record.Plain r) here = refl
every_named (Record.Wfx r) here = refl
every_named (Record.Mcr r) here = refl
every_named (Record.Mcrr r) here = refl
every_named (Record.Ldc r) here = refl
every_named (Record.Simd r) here = refl
every_named (Record.Call r) here = refl
every_named (Record.Smc r) here = refl
every_named (Record.InstructionAbort r) here = refl
every_named (Record.DataAbort r) here = refl
every_named (Record.Debug r) here = refl
every_named (Record.Step r) here = refl
every_named (Record.Watchpoint r) here = refl
every_named (Record.SError r) here = refl
every_named (Record.System r) here = absurd (true≢false (sym here))
