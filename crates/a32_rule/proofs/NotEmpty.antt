-- Legal fields are not nothing: every form has some.
-- Assumes nothing.

use mathlib.Core.Bool.{Bool, true, false, ◌&&◌}
use mathlib.Core.List.{List, [], ◌∷◌}
use lib.Dec.{T}
use Rattle.a32_fields.specs.declared.kinds.Transfer.{Transfer}
use Rattle.a32_fields.specs.declared.kinds.Transfer.TheVariants.{Ldr, Str, Ldrb, Strb, Ldrh, Strh, Ldrsb, Ldrsh, Ldrd, Strd}
use Rattle.a32_fields.specs.declared.kinds.Fields.{Fields}
use Rattle.a32_rule.specs.Legal.{legal}

-- fields with an immediate offset, of a transfer
immediate : Transfer → Fields
immediate x = Fields.Immediate record { transfer = x; cond = 14; p = true; u = true; w = false; rn = 1; rt = 2; imm = 4 }

-- fields with an offset register, of a transfer
register : Transfer → Fields
register x = Fields.Register record { transfer = x; cond = 14; p = true; u = true; w = false; rn = 1; rt = 2; rm = 5 }

-- fields of a literal, of a transfer
literal : Transfer → Fields
literal x = Fields.Literal record { transfer = x; cond = 14; u = true; rt = 2; imm = 4 }

-- fields of LDM or STM in one of their four modes
multiple : Bool → Bool → Bool → Fields
multiple load p u = Fields.Multiple record { load = load; cond = 14; p = p; u = u; w = false; rn = 13; list = 0x4070 }

-- all of some fields are legal
abbrev pub all_legal : List Fields → Bool
all_legal [] = true
all_legal (f ∷ fs) = legal f && all_legal fs

-- fields of each form
pub samples : List Fields
unfolding immediate register literal multiple
samples =
    immediate Ldr ∷ immediate Str ∷ immediate Ldrb ∷ immediate Strb ∷ immediate Ldrh ∷ immediate Strh ∷ immediate Ldrsb ∷ immediate Ldrsh
    ∷ immediate Ldrd ∷ immediate Strd ∷ register Ldr ∷ register Str ∷ register Ldrb ∷ register Strb ∷ register Ldrh ∷ register Strh
    ∷ register Ldrsb ∷ register Ldrsh ∷ register Ldrd ∷ register Strd ∷ literal Ldr ∷ literal Ldrb ∷ literal Ldrh ∷ literal Ldrsb
    ∷ literal Ldrsh ∷ literal Ldrd ∷ multiple true false false ∷ multiple true false true ∷ multiple true true false
    ∷ multiple true true true ∷ multiple false false false ∷ multiple false false true ∷ multiple false true false
    ∷ multiple false true true ∷ []

-- one for each form, all legal
pub every_form : T (all_legal samples)
unfolding samples legal
every_form = tt
