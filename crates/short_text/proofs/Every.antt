-- Every class of the short form has a name, every field of every kind, and every fault code that some short edition has.
-- Assumes nothing.
use mathlib.Core.Path.{◌≡◌, refl}
use mathlib.Core.Bool.{Bool, true, ◌||◌}
use Prim.Native.Nat.{ℕ, ◌<◌}
use lib.Dec.{eqb}
use lib.ListN.{length}
use Rattle.bits.proofs.Among.{among_all}
use Rattle.bits.proofs.Every.{below}
use Rattle.edition.specs.Mask.{mask_below}
use Rattle.names.specs.Name.{meaning_of}
use Rattle.names.specs.Class.{short_classes}
use Rattle.names.specs.Code.{short_codes}
use Rattle.refusal_text.proofs.Why.{some}
use Rattle.short_layout.specs.Fields.{fields_of}
use Rattle.short_record.specs.Class.{classes, is_class}
use Rattle.short_record.specs.declared.kinds.Record.{Record}
use Rattle.short_rule.specs.Code.{data_code}
use Rattle.short_text.specs.Names.{names_of}

pub class_named : (class : ℕ) → is_class class ≡ true → some (meaning_of short_classes class) ≡ true
class_named = among_all classes (λ c. some (meaning_of short_classes c)) tt

pub every_named : (r : Record) → length (names_of r) ≡ length (fields_of r)
every_named (Record.Plain r) = refl
every_named (Record.Wfx r) = refl
every_named (Record.Mcr r) = refl
every_named (Record.Mcrr r) = refl
every_named (Record.Ldc r) = refl
every_named (Record.Simd r) = refl
every_named (Record.Call r) = refl
every_named (Record.Smc r) = refl
every_named (Record.InstructionAbort r) = refl
every_named (Record.DataAbort r) = refl

-- no edition has the code, or it has a name
abbrev named : ℕ → Bool
named code = eqb (mask_below 2 (λ e. data_code e code)) 0 || some (meaning_of short_codes code)

pub code_named : (code : ℕ) → code < 64 → named code ≡ true
code_named = below named (λ code. true) 64 tt
