-- What a record tells of the two address registers (01, 'Addresses of an abort'; 02, C-20): an abort's FnV, S1PTW and code; classes 0x22
-- and 0x34 have a virtual address, always known; every other class has none.
use Rattle.std.specs.Prelude.{Option, Some, None}
use Rattle.record.specs.Sort.{sort_of}
use Rattle.record.specs.declared.kinds.Addresses.{Addresses}
use Rattle.record.specs.declared.kinds.Record.{Record}
use Rattle.record.specs.declared.kinds.Sort.{Sort}

abbrev pub sort_addresses : Sort → Option Addresses
sort_addresses Sort.Plain = None
sort_addresses Sort.Addressed = Some Addresses.Virtual
sort_addresses (Sort.InstructionAbort r) = Some (Addresses.Abort r.fnv r.s1ptw r.code)
sort_addresses (Sort.DataAbort r) = Some (Addresses.Abort r.fnv r.s1ptw r.code)
sort_addresses (Sort.SError r) = None

abbrev pub addresses_of : Record → Option Addresses
addresses_of r = sort_addresses (sort_of r)
