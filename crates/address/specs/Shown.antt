-- The addresses that are shown (01, 'Addresses of an abort').
use Rattle.std.specs.Prelude.{ℕ, ◌+◌, Bool, cond, Option, Some, None}
use Rattle.bits.specs.Field.{field_of}
use Rattle.record.specs.declared.kinds.Addresses.{Addresses}
use Rattle.address.specs.Known.{intermediate_known, far_counts}
use Rattle.address.specs.Page.{page_address}
use Rattle.registers.specs.declared.Far.{Far}
use Rattle.registers.specs.declared.Hpfar.{Hpfar}
use Rattle.address.specs.declared.IntermediateAddress.{IntermediateAddress}

-- the virtual address is FAR where it counts
abbrev pub virtual_of : Option Addresses → Far → Option ℕ
virtual_of a far = cond (far_counts a) (Some far.0) None

-- known with S1PTW 0: the page with FAR bits 11:0; with S1PTW 1: the page alone, since FAR isn't the walked address
abbrev pub abort_intermediate : Bool → ℕ → Far → Hpfar → Option IntermediateAddress
abort_intermediate s1ptw code far hpfar =
    cond (intermediate_known s1ptw code)
    (cond s1ptw (Some (IntermediateAddress.Page (page_address hpfar)))
    (Some (IntermediateAddress.Byte (page_address hpfar + field_of far.0 11 0))))
    None

abbrev pub intermediate_of : Option Addresses → Far → Hpfar → Option IntermediateAddress
intermediate_of None far hpfar = None
intermediate_of (Some Addresses.Virtual) far hpfar = None
intermediate_of (Some (Addresses.Abort fnv s1ptw code)) far hpfar = abort_intermediate s1ptw code far hpfar
