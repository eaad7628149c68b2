-- The trap of a record (01, 'Addresses of an abort'): the record, the virtual address if known, and for an abort its address answer. The
-- edition has no part in it.
use Rattle.std.specs.Prelude.{ℕ, Option, Some, None}
use Rattle.record.specs.Addresses.{addresses_of}
use Rattle.record.specs.declared.kinds.Addresses.{Addresses}
use Rattle.record.specs.declared.kinds.Record.{Record}
use Rattle.address.specs.Shown.{virtual_of, intermediate_of}
use Rattle.registers.specs.declared.Far.{Far}
use Rattle.registers.specs.declared.Hpfar.{Hpfar}
use Rattle.address.specs.declared.IntermediateAddress.{IntermediateAddress}
use Rattle.trap.specs.declared.Trap.{Trap}

abbrev pub trap_from : Option Addresses → Record → Far → Hpfar → Trap
trap_from None r far hpfar = Trap.Plain r
trap_from (Some Addresses.Virtual) r far hpfar = Trap.Addressed record { syndrome = r; address = far.0 }
trap_from (Some (Addresses.Abort fnv s1ptw code)) r far hpfar =
    Trap.Abort
    record {
      syndrome = r;
      address = virtual_of (Some (Addresses.Abort fnv s1ptw code)) far;
      intermediate = intermediate_of (Some (Addresses.Abort fnv s1ptw code)) far hpfar;
    }

abbrev pub trap_of : Record → Far → Hpfar → Trap
trap_of r far hpfar = trap_from (addresses_of r) r far hpfar

-- the record of a trap, its virtual address and its address answer, a missing one included
abbrev pub record_in : Trap → Record
record_in (Trap.Abort t) = t.syndrome
record_in (Trap.Addressed t) = t.syndrome
record_in (Trap.Plain r) = r

abbrev pub virtual_in : Trap → Option ℕ
virtual_in (Trap.Abort t) = t.address
virtual_in (Trap.Addressed t) = Some t.address
virtual_in (Trap.Plain r) = None

abbrev pub intermediate_in : Trap → Option IntermediateAddress
intermediate_in (Trap.Abort t) = t.intermediate
intermediate_in (Trap.Addressed t) = None
intermediate_in (Trap.Plain r) = None
