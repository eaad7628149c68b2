-- What a load or store does (02, C-18), from the registers, the PC and the mode: its fields, the number of its registers, the first address
-- and the change of the base.
use Rattle.std.specs.Prelude.{ℕ, List}
use Rattle.a32_fields.specs.declared.kinds.Fields.{Fields}
use Rattle.a32_access.specs.Transferred.{count_of}
use Rattle.a32_access.specs.Place.{base_of, offset_of, address_of, change_of}
use Rattle.a32_access.specs.declared.access.Access.{Access}

abbrev pub access_in : List ℕ → ℕ → ℕ → Fields → Access
access_in regs pc mode f =
    record {
      fields = f;
      count = count_of f;
      address = address_of f (base_of regs pc mode f) (offset_of regs pc mode f);
      change = change_of f (offset_of regs pc mode f);
    }
