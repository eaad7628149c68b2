-- What the monitor asks of a trap: its record, whether it is an access at the card, and the address that the guest is told.
use Rattle.std.specs.Prelude.{ℕ, Option, Some, None, ◌/◌, ◌^◌, Bool, false, eqb}
use Rattle.address.specs.declared.IntermediateAddress.{IntermediateAddress}
use Rattle.trap.specs.Trap.{record_in, virtual_in, intermediate_in}
use Rattle.trap.specs.declared.Trap.{Trap}
use Rattle.example.specs.declared.way.Seen.{Seen}

-- the one card that the monitor emulates stands at intermediate page 0xA000, of 4096 bytes; where the page alone is known, a table was walked
-- there
abbrev pub at_card : Option IntermediateAddress → Bool
at_card None = false
at_card (Some (IntermediateAddress.Page address)) = false
at_card (Some (IntermediateAddress.Byte address)) = eqb (address / 2 ^ 12) 0xA000

-- FAR, where it is known
abbrev pub told : Option ℕ → ℕ
told (Some far) = far
told None = 0

abbrev pub seen_of : Trap → Seen
seen_of t = record { what = record_in t; card = at_card (intermediate_in t); address = told (virtual_in t) }
