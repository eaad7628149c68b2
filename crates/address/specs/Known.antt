-- Which address registers count (01, 'Addresses of an abort'). A register counts when the address it gives is known.
use Rattle.std.specs.Prelude.{ℕ, Bool, true, false, not, ◌&&◌, ◌||◌, leb, eqb, Option, Some, None}
use Rattle.bits.specs.Test.{between}
use Rattle.record.specs.declared.kinds.Addresses.{Addresses}

-- an abort's virtual address is not known when code is 0x10 and FnV is 1
abbrev pub virtual_known : Bool → ℕ → Bool
virtual_known fnv code = not (eqb code 0x10 && fnv)

-- its intermediate address is known for 0x00..0x0B, 0x29, 0x2B, and for 0x0C..0x0F only with S1PTW 1
abbrev pub intermediate_known : Bool → ℕ → Bool
intermediate_known s1ptw code = leb code 0x0B || eqb code 0x29 || eqb code 0x2B || between 0x0C 0x0F code && s1ptw

-- the virtual address is FAR: of an abort where it is known, and of classes 0x22 and, since C-20, 0x34 always
abbrev pub far_counts : Option Addresses → Bool
far_counts None = false
far_counts (Some Addresses.Virtual) = true
far_counts (Some (Addresses.Abort fnv s1ptw code)) = virtual_known fnv code

-- the intermediate address is an abort's alone
abbrev pub hpfar_counts : Option Addresses → Bool
hpfar_counts None = false
hpfar_counts (Some Addresses.Virtual) = false
hpfar_counts (Some (Addresses.Abort fnv s1ptw code)) = intermediate_known s1ptw code
